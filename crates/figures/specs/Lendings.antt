-- Worked figures of eleven o'clock: what offers give and earn, and what accounts pay.
use Rattle.std.specs.Prelude.{◌≡◌, false, List, [], ◌∷◌, pos, Some, Option}
use Rattle.lending.specs.declared.account.Account.{Account}
use Rattle.lending.specs.declared.offer.Offer.{Offer}
use Rattle.lending.specs.Lending.{need_of, gives, lent, fee_at}
use Rattle.lending.specs.Eleven.{earned_in}

-- six units at a rate of 20, of which the broker has 10 per cent
abbrev pub six_at_20 : Offer
six_at_20 = record { security = 0; units = 6; rate = 20; commission = 10; lender = 0; broker = 0 }

-- ten units at a rate of 35
abbrev pub ten_at_35 : Offer
ten_at_35 = record { security = 0; units = 10; rate = 35; commission = 0; lender = 0; broker = 0 }

abbrev pub two_offers : List (Option Offer)
two_offers = Some six_at_20 ∷ Some ten_at_35 ∷ []

-- an account that owes one unit
abbrev pub one_unit : Account
one_unit = record { firm = 1; security = 0; owed = 1; applied = 0; barred = false; balance = pos 0 }

abbrev pub three_accounts : List (Option Account)
three_accounts = Some one_unit ∷ Some one_unit ∷ Some one_unit ∷ []

pub record LendingFiguresHold : Type 0 where
  -- a need of ten takes the six at 20, and four at 35: 260,000 cents
  pub all_earn : (accounts : List (Option Account)) → need_of accounts 0 ≡ 10 → earned_in accounts two_offers 0 ≡ 260000
  -- of what the first earns, the lender has 108,000 and the broker 12,000
  pub first_gives : gives two_offers 0 10 0 ≡ 6
  pub lender_earns : (lent six_at_20 6).lender ≡ 108000
  pub broker_earns : (lent six_at_20 6).broker ≡ 12000
  -- three accounts of one unit share a fee of 1,000, and no cent is lost
  pub first_pays : fee_at three_accounts 0 1000 0 ≡ 333
  pub second_pays : fee_at three_accounts 0 1000 1 ≡ 333
  pub third_pays : fee_at three_accounts 0 1000 2 ≡ 334
