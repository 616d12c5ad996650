-- Turned away: the number of each reason.
use Rattle.std.specs.Prelude.{ℕ}
use Rattle.meaning.specs.declared.Reason.{Reason}
use Rattle.meaning.specs.declared.Reason.TheVariants.{Ended, Mark, Version, Bound, Code, Kind, Edge, Number, Operand, Extra, Steps, Room}

abbrev pub number_of : Reason → ℕ
-- the file stops short: in a field, or where more has to follow
number_of Ended = 1
number_of Mark = 2
number_of Version = 3
-- too many of something; no type, no step or no row at all; or tables whose k is not the graph's
number_of Bound = 4
-- a code that there is not, or that may not stand here
number_of Code = 5
-- a type that the graph does not have, as a number or as a mask's bit
number_of Kind = 6
-- a child that may not stand under its parent, another first type than the root type, or a close before any open
number_of Edge = 7
-- a row's number or its parent's is wrong
number_of Number = 8
-- an operand that is no earlier step
number_of Operand = 9
-- bytes behind the end, or a byte of a step that has no use and is not 0
number_of Extra = 10
-- more steps needed than are allowed
number_of Steps = 11
-- a lent buffer is too short
number_of Room = 12
