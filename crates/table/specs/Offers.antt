-- Calls on one offer.
use Rattle.std.specs.Prelude.{ℕ, ◌*◌, Bool, not, ◌||◌, List, [], ◌∷◌, Some, None, Option, nat_le, nat_lt}
use Rattle.lending.specs.declared.offer.Offer.{Offer}
use Rattle.lending.specs.Measures.{top_units}
use Rattle.lending.specs.Sound.{securities, top_rate, top_commission, offer_places}
use Rattle.table.specs.declared.refusal.Refusal.{Refusal}
use Rattle.table.specs.declared.refusal.Refusal.TheVariants.{NoSuchPlace, OutOfRange, WrongHour, PlaceTaken, PlaceEmpty, RateTooHigh}
use Rattle.table.specs.declared.table.Table.{Table}
use Rattle.table.specs.Act.{Act, first, outside}
use Rattle.table.specs.Tables.{offer_at, price_at, morning, taken, with_offer}

-- a rate above 7 per cent of the price is too high
abbrev pub too_dear : ℕ → ℕ → Bool
too_dear rate price = nat_lt (7 * price) (100 * rate)

-- an offer that has earned nothing yet
abbrev pub offered : ℕ → ℕ → ℕ → ℕ → Offer
offered security units rate commission = record { security = security; units = units; rate = rate; commission = commission; lender = 0; broker = 0 }

-- what an offer has earned and not been paid: the lender's part and the broker's
abbrev pub unpaid : Option Offer → ℕ × ℕ
unpaid None = (0, 0)
unpaid (Some o) = (o.lender, o.broker)

abbrev pub offer_causes : ℕ → ℕ → ℕ → ℕ → ℕ → Table → List (Bool × Refusal)
offer_causes place security units rate commission t =
    (nat_le offer_places place || nat_le securities security, NoSuchPlace)
    ∷ (outside 1 top_units units || nat_lt top_rate rate || nat_lt top_commission commission, OutOfRange)
    ∷ (not (morning t.hour), WrongHour)
    ∷ (taken (offer_at t place), PlaceTaken)
    ∷ (too_dear rate (price_at t security), RateTooHigh)
    ∷ []

-- offer: the place gets the offer
abbrev pub offer_act : ℕ → ℕ → ℕ → ℕ → ℕ → Act Table (Unit {0})
offer_act place security units rate commission = record {
  cause = λ t. first (offer_causes place security units rate commission t);
  value = λ t. tt;
  done = λ t. with_offer t place (Some (offered security units rate commission));
}

abbrev pub withdraw_causes : ℕ → Table → List (Bool × Refusal)
withdraw_causes place t =
    (nat_le offer_places place, NoSuchPlace)
    ∷ (not (morning t.hour), WrongHour)
    ∷ (not (taken (offer_at t place)), PlaceEmpty)
    ∷ []

-- withdraw: the place is empty, and what is unpaid is answered
abbrev pub withdraw_act : ℕ → Act Table (ℕ × ℕ)
withdraw_act place = record {
  cause = λ t. first (withdraw_causes place t);
  value = λ t. unpaid (offer_at t place);
  done = λ t. with_offer t place None;
}
