-- What the kinds are: the number of each in a file, the name of its call, and the kind of what a record says.
use Rattle.std.specs.Prelude.{◌≡◌, ℕ, true, false, List, codes, Ok, Err, Result}
use Rattle.instruction.specs.declared.kind.Kind.{Kind}
use Rattle.instruction.specs.declared.kind.Kind.TheVariants as kind
use Rattle.instruction.specs.declared.kind.UnknownKind.{UnknownKind}
use Rattle.instruction.specs.Said.{Said, opens, enrols, offers, withdraws, applies, returns, deposits, guarantees, bonds, releases, ten, waits, buys_in, eleven, pays_out, refunds}
use Rattle.instruction.specs.Kinds.{known}

abbrev pub kind_number : Kind → ℕ
kind_number kind.Open = 1
kind_number kind.Enrol = 2
kind_number kind.Offer = 3
kind_number kind.Withdraw = 4
kind_number kind.Apply = 5
kind_number kind.Return = 6
kind_number kind.Deposit = 7
kind_number kind.Guarantee = 8
kind_number kind.Bond = 9
kind_number kind.Release = 10
kind_number kind.Ten = 11
kind_number kind.ExamineWait = 12
kind_number kind.ExamineBuyIn = 13
kind_number kind.Eleven = 14
kind_number kind.PayOut = 15
kind_number kind.Refund = 16

abbrev pub kind_name : Kind → List ℕ
kind_name kind.Open = codes "open"
kind_name kind.Enrol = codes "enrol"
kind_name kind.Offer = codes "offer"
kind_name kind.Withdraw = codes "withdraw"
kind_name kind.Apply = codes "apply"
kind_name kind.Return = codes "return"
kind_name kind.Deposit = codes "deposit"
kind_name kind.Guarantee = codes "guarantee"
kind_name kind.Bond = codes "bond"
kind_name kind.Release = codes "release"
kind_name kind.Ten = codes "ten"
kind_name kind.ExamineWait = codes "examine-wait"
kind_name kind.ExamineBuyIn = codes "examine-buy-in"
kind_name kind.Eleven = codes "eleven"
kind_name kind.PayOut = codes "pay-out"
kind_name kind.Refund = codes "refund"

abbrev pub kind_of : Said → Kind
kind_of (opens prices) = kind.Open
kind_of (enrols account firm security) = kind.Enrol
kind_of (offers place security units rate commission) = kind.Offer
kind_of (withdraws place) = kind.Withdraw
kind_of (applies account units) = kind.Apply
kind_of (returns account units) = kind.Return
kind_of (deposits account cents) = kind.Deposit
kind_of (guarantees place account thousands expiry) = kind.Guarantee
kind_of (bonds place account blocks expiry) = kind.Bond
kind_of (releases shelf place) = kind.Release
kind_of ten = kind.Ten
kind_of (waits account) = kind.ExamineWait
kind_of (buys_in account share_price charges block_price) = kind.ExamineBuyIn
kind_of eleven = kind.Eleven
kind_of (pays_out place) = kind.PayOut
kind_of (refunds account) = kind.Refund

-- the kind with this number, or the number back where no kind has it
abbrev pub Decodes : ℕ → Result Kind UnknownKind → Type 0
Decodes number (Ok k) = (kind_number k ≡ number) × (known number ≡ true)
Decodes number (Err e) = (e.0 ≡ number) × (known number ≡ false)
