-- Manual 7, the refusals: the number of each.
use Rattle.std.specs.Prelude.{ℕ, ◌+◌}
use Rattle.refusals.specs.declared.Refusal.{Refusal}
use Rattle.refusals.specs.declared.Refusal.TheVariants.{Cut, TooWide, NotShortest, OutOfRange, NoSuchRun, NoSuchSegment, NoRoom, CarryoverLength, EmptyFacility, NoPeriod, TooFewSteps, Unfinished, TooManyPeriods, OtherRoad, DemandOutside, LaneClosed}
use Rattle.refusals.specs.declared.Refused.{Refused}

-- the number of each in the tables
abbrev pub refusal_number : Refusal → ℕ
-- the bytes end before a number does
refusal_number Cut = 1
-- a fifth group has its top bit set or is above 15
refusal_number TooWide = 2
-- a number of two or more groups ends in a zero group
refusal_number NotShortest = 3
-- a field is outside its range
refusal_number OutOfRange = 4
-- k is outside 1..60
refusal_number NoSuchRun = 5
-- segment number outside 1..NS
refusal_number NoSuchSegment = 6
-- the buffer from the named place on is shorter than the sheet, or the place is past its end
refusal_number NoRoom = 7
-- planning: the carryover slice's length isn't the section count
refusal_number CarryoverLength = 8
-- the facility is the empty one, which a refused laying returns
refusal_number EmptyFacility = 9
-- no period taken yet
refusal_number NoPeriod = 10
-- fewer than k steps remain in the period
refusal_number TooFewSteps = 11
-- the period in force isn't run out
refusal_number Unfinished = 12
-- 96 periods are taken
refusal_number TooManyPeriods = 13
-- a period sheet's NS isn't the road's (in place of 4)
refusal_number OtherRoad = 14
-- planning: a demand below 0 or above 1,000,000
refusal_number DemandOutside = 15
-- converting to the first layout: a segment has a lane closed
refusal_number LaneClosed = 16

-- a refusal in a part of the bytes that starts so many bytes on
abbrev pub moved_by : ℕ → Refused → Refused
moved_by bytes r = record { refusal = r.refusal; offset = bytes + r.offset }
