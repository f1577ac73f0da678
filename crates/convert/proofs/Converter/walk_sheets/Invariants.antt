-- Sheet by sheet, each read, converted and written where there is room.
use Prim.Native.Nat.{◌-◌}
use Rattle.convert.proofs.Walking.{Turn}
use Rattle.convert.proofs.Converter.walk_sheets.Given as goal

abbrev pub invariant-loop : goal.invariant-loop
invariant-loop l = Turn l.self.way l.study l.self.road.now l.initial.out l.start l.out l.at l.count (96 - l.counter)
