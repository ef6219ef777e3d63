-- What an instruction says: its values, with no reference in them.
use Rattle.std.specs.Prelude.{ℕ, List}
use Rattle.instruction.specs.declared.instruction.Instruction.{Instruction}
use Rattle.instruction.specs.declared.instruction.Instruction.TheVariants.{Open, Enrol, Offer, Withdraw, Apply, Return, Deposit, Guarantee, Bond, Release, Ten, ExamineWait, ExamineBuyIn, Eleven, PayOut, Refund}

pub data Said : Type 0 where
  -- the bytes of eight prices
  opens : List ℕ → Said
  -- account, firm, security
  enrols : ℕ → ℕ → ℕ → Said
  -- place, security, units, rate, commission
  offers : ℕ → ℕ → ℕ → ℕ → ℕ → Said
  -- place
  withdraws : ℕ → Said
  -- account, units
  applies : ℕ → ℕ → Said
  -- account, units
  returns : ℕ → ℕ → Said
  -- account, cents
  deposits : ℕ → ℕ → Said
  -- place, account, thousands, expiry
  guarantees : ℕ → ℕ → ℕ → ℕ → Said
  -- place, account, blocks, expiry
  bonds : ℕ → ℕ → ℕ → ℕ → Said
  -- shelf, place
  releases : ℕ → ℕ → Said
  ten : Said
  -- account
  waits : ℕ → Said
  -- account, share price, charges, block price
  buys_in : ℕ → ℕ → ℕ → ℕ → Said
  eleven : Said
  -- place
  pays_out : ℕ → Said
  -- account
  refunds : ℕ → Said

abbrev pub told : Instruction → Said
told (Open prices) = opens prices.now
told (Enrol account firm security) = enrols account firm security
told (Offer place security units rate commission) = offers place security units rate commission
told (Withdraw place) = withdraws place
told (Apply account units) = applies account units
told (Return account units) = returns account units
told (Deposit account cents) = deposits account cents
told (Guarantee place account thousands expiry) = guarantees place account thousands expiry
told (Bond place account blocks expiry) = bonds place account blocks expiry
told (Release shelf place) = releases shelf place
told Ten = ten
told (ExamineWait account) = waits account
told (ExamineBuyIn account share_price charges block_price) = buys_in account share_price charges block_price
told Eleven = eleven
told (PayOut place) = pays_out place
told (Refund account) = refunds account
