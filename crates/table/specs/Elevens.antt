-- Eleven o'clock, and paying what was earned.
use Rattle.std.specs.Prelude.{ℕ, Bool, not, List, [], ◌∷◌, ◌==◌, nat_le}
use Rattle.std.specs.Option.{option_map}
use Rattle.lending.specs.declared.offer.Offer.{Offer}
use Rattle.lending.specs.Eleven.{all_fees, all_vouchers, accounts_after, offers_after}
use Rattle.lending.specs.Sound.{offer_places}
use Rattle.table.specs.declared.hour.Hour.TheVariants.{Afternoon}
use Rattle.table.specs.declared.refusal.Refusal.{Refusal}
use Rattle.table.specs.declared.refusal.Refusal.TheVariants.{NoSuchPlace, WrongHour, PlaceEmpty, NoticeOpen}
use Rattle.table.specs.declared.table.Table.{Table}
use Rattle.table.specs.Act.{Act, first}
use Rattle.table.specs.Offers.{unpaid}
use Rattle.table.specs.Tables.{offer_at, calling, afternoon, taken, with_offer}

abbrev pub eleven_causes : Table → List (Bool × Refusal)
eleven_causes t =
    (not (calling t.hour), WrongHour)
    ∷ (not (t.notices == 0), NoticeOpen)
    ∷ []

-- the afternoon's table: units are lent and charged for
abbrev pub struck : Table → Table
struck t = record {
  day = t.day;
  hour = Afternoon;
  prices = t.prices;
  accounts = accounts_after t.accounts t.offers;
  offers = offers_after t.accounts t.offers;
  notices = t.notices;
  slips = t.slips;
}

-- eleven: the offers give what is needed, the accounts pay for it, and all fees and all voucher units are answered
abbrev pub eleven_act : Act Table (ℕ × ℕ)
eleven_act = record {
  cause = λ t. first (eleven_causes t);
  value = λ t. (all_fees t.accounts t.offers, all_vouchers t.accounts t.offers);
  done = struck;
}

-- an offer of which nothing is unpaid
abbrev pub paid_out : Offer → Offer
paid_out o = record { security = o.security; units = o.units; rate = o.rate; commission = o.commission; lender = 0; broker = 0 }

abbrev pub pay_out_causes : ℕ → Table → List (Bool × Refusal)
pay_out_causes place t =
    (nat_le offer_places place, NoSuchPlace)
    ∷ (not (afternoon t.hour), WrongHour)
    ∷ (not (taken (offer_at t place)), PlaceEmpty)
    ∷ []

-- pay out: what is unpaid is answered, and is unpaid no more
abbrev pub pay_out_act : ℕ → Act Table (ℕ × ℕ)
pay_out_act place = record {
  cause = λ t. first (pay_out_causes place t);
  value = λ t. unpaid (offer_at t place);
  done = λ t. with_offer t place (option_map paid_out (offer_at t place));
}
