-- What is read before a stream is judged: the length of the input, its kind's letter, the file of renames.
use Rattle.std.specs.Prelude.{ℕ, ◌/◌, ◌%◌, Bool, cond, not, ◌&&◌, List, [], ◌∷◌, length, map, drop, Ok, Err, Result, ◌==◌, nat_lt}
use Rattle.std.specs.Result.{result_and}
use Rattle.std.specs.Simd.{first_chunks}
use Rattle.records.specs.Reading.{byte, code_from}
use Rattle.records.specs.declared.refusal.Refusal.{Refusal}
use Rattle.records.specs.declared.refusal.Refusal.TheVariants.{InputLong, RenamesIll}
use Rattle.labels.specs.declared.pair.Pair.{Pair}
use Rattle.labels.specs.declared.renames.Renames.{Renames}
use Rattle.labels.specs.Renames.{held_pairs, rename_answer, rename_pairs}

-- an input of more than 65,535 bytes is refused
abbrev pub input_answer : ℕ → Result (Unit {0}) Refusal
input_answer n = cond (nat_lt 65535 n) (Err InputLong) (Ok tt)

-- the third byte is T
abbrev pub for_tags : List ℕ → Bool
for_tags bs = nat_lt 2 (length bs) && byte bs 2 == 84

-- the code of four bytes, highest first
abbrev pub code_in : List ℕ → ℕ
code_in bs = code_from (byte bs 0) (byte bs 1) (byte bs 2) (byte bs 3)

-- the codes that bytes hold, four bytes each: all that are whole
abbrev pub codes_held : List ℕ → List ℕ
codes_held bs = map code_in (first_chunks 4 (length bs / 4) bs)

-- the pair of eight bytes: its old code, then its new one
abbrev pub pair_in : List ℕ → Pair
pair_in bs = record { old = code_in bs; new = code_in (drop 4 bs) }

-- the pairs that bytes hold, eight bytes each: all that are whole
abbrev pub pairs_listed : List ℕ → List Pair
pairs_listed bs = map pair_in (first_chunks 8 (length bs / 8) bs)

-- pairs taken in one after another by a layer that holds the first ones: the pairs held then, or the first refusal
abbrev pub loaded : List Pair → List Pair → Result (List Pair) Refusal
loaded held [] = Ok held
loaded held (p ∷ ps) = result_and (rename_answer held p.old) (loaded (rename_pairs held p.old p.new) ps)

-- the file is whole pairs, and at most 16
abbrev pub pairs_whole : List ℕ → Bool
pairs_whole bs = length bs % 8 == 0 && not (nat_lt 16 (length bs / 8))

-- the pairs that a file gives, or its refusal
abbrev pub renames_read : List ℕ → Result (List Pair) Refusal
renames_read bs = cond (pairs_whole bs) (loaded [] (pairs_listed bs)) (Err RenamesIll)

-- a layer by its pairs
abbrev pub pairs_told : {K : Type 0} → Result (Renames K) Refusal → Result (List Pair) Refusal
pairs_told (Ok layer) = Ok (held_pairs layer)
pairs_told (Err e) = Err e
