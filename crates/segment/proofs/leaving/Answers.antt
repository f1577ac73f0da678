-- With fewer let in ahead than would go on, y is below Y0.
use Rattle.segment.proofs.Moving.{fewer_leave, sent_small}
use Rattle.segment.proofs.leaving.Goals as goal

pub held_back-requires : goal.held_back-requires
held_back-requires c =
    let s = c.requires.1 in
    ((sent_small _ _ _ s c.args.place.now.good).0, rw c.split_of.ensures (fewer_leave _ _ _ s _ c.if-sent-ahead.false))
