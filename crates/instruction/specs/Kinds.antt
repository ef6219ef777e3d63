-- The kinds of record, 1 to 16: how many bytes the fields of each take, and what they say.
use Rattle.std.specs.Prelude.{ℕ, ◌+◌, Bool, false, cond, List, [], ◌∷◌, ◌==◌, nat_le, slice_index}
use Rattle.cursor.specs.Bytes.{byte, be16, be32, be64, part}
use Rattle.instruction.specs.Said.{Said, opens, enrols, offers, withdraws, applies, returns, deposits, guarantees, bonds, releases, ten, waits, buys_in, eleven, pays_out, refunds}

abbrev pub known : ℕ → Bool
known kind = cond (nat_le 1 kind) (nat_le kind 16) false

-- the bytes that the fields of a kind take; kinds are counted from 1
abbrev pub width : ℕ → ℕ
width kind = slice_index (0 ∷ 32 ∷ 4 ∷ 10 ∷ 2 ∷ 3 ∷ 3 ∷ 9 ∷ 8 ∷ 6 ∷ 2 ∷ 0 ∷ 1 ∷ 17 ∷ 0 ∷ 2 ∷ 1 ∷ []) kind

-- what the fields of a kind say that stand in bs from the place i on
abbrev pub said : ℕ → List ℕ → ℕ → Said
said kind bs i =
    cond (kind == 1) (opens (part bs i 32)) (
    cond (kind == 2) (enrols (byte bs i) (be16 bs (i + 1)) (byte bs (i + 3))) (
    cond (kind == 3) (offers (be16 bs i) (byte bs (i + 2)) (be16 bs (i + 3)) (be32 bs (i + 5)) (byte bs (i + 9))) (
    cond (kind == 4) (withdraws (be16 bs i)) (
    cond (kind == 5) (applies (byte bs i) (be16 bs (i + 1))) (
    cond (kind == 6) (returns (byte bs i) (be16 bs (i + 1))) (
    cond (kind == 7) (deposits (byte bs i) (be64 bs (i + 1))) (
    cond (kind == 8) (guarantees (byte bs i) (byte bs (i + 1)) (be32 bs (i + 2)) (be16 bs (i + 6))) (
    cond (kind == 9) (bonds (byte bs i) (byte bs (i + 1)) (be16 bs (i + 2)) (be16 bs (i + 4))) (
    cond (kind == 10) (releases (byte bs i) (byte bs (i + 1))) (
    cond (kind == 11) (ten) (
    cond (kind == 12) (waits (byte bs i)) (
    cond (kind == 13) (buys_in (byte bs i) (be32 bs (i + 1)) (be64 bs (i + 5)) (be32 bs (i + 13))) (
    cond (kind == 14) (eleven) (
    cond (kind == 15) (pays_out (be16 bs i)) (
    refunds (byte bs i))))))))))))))))
