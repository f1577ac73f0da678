-- The next word, behind which there is none.
use Rattle.std.proofs.Common.{[]}
use Rattle.records.proofs.only_word.Goals as goal

pub returns-in-None-clause-is : goal.returns-in-None-clause-is
returns-in-None-clause-is c = (c.in_ok-word.behind.now, c.in_ok-word.ensures.word [], c.in-None.ensures.word [])
