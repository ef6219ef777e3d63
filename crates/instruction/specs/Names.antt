-- The name of each call, as its bytes.
use Rattle.std.specs.Prelude.{ℕ, List, codes}
use Rattle.instruction.specs.Said.{Said, opens, enrols, offers, withdraws, applies, returns, deposits, guarantees, bonds, releases, ten, waits, buys_in, eleven, pays_out, refunds}

abbrev pub name : Said → List ℕ
name (opens prices) = codes "open"
name (enrols account firm security) = codes "enrol"
name (offers place security units rate commission) = codes "offer"
name (withdraws place) = codes "withdraw"
name (applies account units) = codes "apply"
name (returns account units) = codes "return"
name (deposits account cents) = codes "deposit"
name (guarantees place account thousands expiry) = codes "guarantee"
name (bonds place account blocks expiry) = codes "bond"
name (releases shelf place) = codes "release"
name ten = codes "ten"
name (waits account) = codes "examine-wait"
name (buys_in account share_price charges block_price) = codes "examine-buy-in"
name eleven = codes "eleven"
name (pays_out place) = codes "pay-out"
name (refunds account) = codes "refund"
