-- The number and the words of every refusal.
use Rattle.std.specs.Prelude.{ℕ, List, codes}
use Rattle.table.specs.declared.refusal.Refusal.{Refusal}
use Rattle.table.specs.declared.refusal.Refusal.TheVariants.{NoSuchPlace, OutOfRange, WrongHour, PlaceTaken, PlaceEmpty, Barred, UnitsOutOfReach, RateTooHigh, NoNotice, UnderSlip, NoticeOpen, BelowTarget, NotSettled, BalanceTooHigh, Expired, LastDay}

pub record Naming : Type 0 where
  pub number : ℕ
  pub words : List ℕ

abbrev pub naming : Refusal → Naming
naming NoSuchPlace = record { number = 1; words = codes "no such place, security or shelf" }
naming OutOfRange = record { number = 2; words = codes "a value is out of range" }
naming WrongHour = record { number = 3; words = codes "wrong hour" }
naming PlaceTaken = record { number = 4; words = codes "the place is taken" }
naming PlaceEmpty = record { number = 5; words = codes "the place is empty" }
naming Barred = record { number = 6; words = codes "the account is barred" }
naming UnitsOutOfReach = record { number = 7; words = codes "more units than may be" }
naming RateTooHigh = record { number = 8; words = codes "the rate is above 7 per cent of the price" }
naming NoNotice = record { number = 9; words = codes "no open notice, or no slip out" }
naming UnderSlip = record { number = 10; words = codes "a slip is out for the account" }
naming NoticeOpen = record { number = 11; words = codes "a notice is open" }
naming BelowTarget = record { number = 12; words = codes "cover would miss the target" }
naming NotSettled = record { number = 13; words = codes "units or debt are left" }
naming BalanceTooHigh = record { number = 14; words = codes "the balance would be too high" }
naming Expired = record { number = 15; words = codes "the pledge expires too soon" }
naming LastDay = record { number = 16; words = codes "the last day is over" }
