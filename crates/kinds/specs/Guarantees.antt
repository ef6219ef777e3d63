-- What a guarantee is worth: the cents not yet drawn.
use Rattle.std.specs.Prelude.{◌≡◌, ℕ, ◌-◌, ◌*◌, min, cond, Some, None, Option, nat_le, nat_lt}
use Rattle.std.proofs.Common.{arith}
use Rattle.pledge.specs.Numbers.{Numbers}
use Rattle.kinds.specs.Amounts.{Within, thousand, top_thousands}
use Rattle.kinds.specs.declared.guarantee.Guarantee.{Guarantee}

-- A guarantee is made exactly for an amount in range: for that amount and that expiry.
abbrev pub Issued : Option Guarantee → ℕ → ℕ → Type 0
Issued (Some g) thousands expiry =
    Within top_thousands thousands × (g.left ≡ thousands * thousand) × (g.expiry ≡ expiry)
Issued None thousands expiry = Within top_thousands thousands → ⊥

-- the cents that count on a day: those left before the expiry day, and none from it on
abbrev pub covered_on : Guarantee → ℕ → ℕ
covered_on g day = cond (nat_lt day g.expiry) g.left 0

-- the cents that can be drawn on a day: those left up to and on the expiry day, and none after it
abbrev pub left_on : Guarantee → ℕ → ℕ
left_on g day = cond (nat_le day g.expiry) g.left 0

-- the guarantee with y cents drawn
abbrev pub less : Guarantee → ℕ → Guarantee
less g y = record { expiry = g.expiry; left = g.left - y; days = g.days; most = omega (arith, g.most) }

-- It covers what is left before the expiry day, and pays it up to and on that day, at any block price.
-- A draw yields the ask, or all that can be drawn: to the cent, so its step is 1.
abbrev pub guaranteed : Numbers Guarantee
guaranteed = record {
  expiry = λ g. g.expiry;
  cover = covered_on;
  payable = λ g day price. left_on g day;
  step = λ g price. 1;
  yields = λ g ask day price. min ask (left_on g day);
  left = λ g ask day price. less g (min ask (left_on g day));
}
