-- Behind the white space, up to the byte that ends it.
use Rattle.std.proofs.lemmas.List.{take_rest}
use Rattle.text.proofs.Turns.{no_word, some_word}
use Rattle.text.proofs.next_word.Goals as goal

pub returns-then-count-eq0-clause-word : goal.returns-then-count-eq0-clause-word
returns-then-count-eq0-clause-word c front =
    let line = c.args.line.now in
    let rest = take_rest line c.white_space.result in
    no_word front line c.white_space.result c.white_space.ensures.0 c.word_length-count.result (rw rest at c.word_length-count.ensures.0) c.if-count-eq0.true

pub returns-clause-word : goal.returns-clause-word
returns-clause-word c front =
    let line = c.args.line.now in
    let rest = take_rest line c.white_space.result in
    let parts = c.split_at.ensures in
    some_word front line c.white_space.result c.white_space.ensures.0 c.word_length-count.result (rw rest at c.word_length-count.ensures.0) c.if-count-eq0.false
    c.split_at.result.0.now (rw rest at parts.front) c.split_at.result.1.now (rw rest at parts.back)
