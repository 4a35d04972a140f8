-- make runs exactly as the subject has it (`make_exact`).
use Rattle.std.proofs.Common.{◌≡◌, ℕ, ◌+◌, Bool, true, false, cond, eqb, leb, List, Some, None, Ok, Err, Option, sym, refl, subst, arith, eq-eqb, eqb-true, le-leb, leb-true}
use Rattle.std.proofs.lemmas.Bool.{and_from, and_parts}
use borrow.Author.Tests.{both_ways}
use Rattle.records.specs.declared.refusal.Refusal.TheVariants.{WrongLetter, OverLimit}
use Rattle.records.specs.declared.rows.Header.{Header as HeaderRow}
use Rattle.records.specs.Reading.{header_in}
use Rattle.meaning.specs.Mixes.{Header, Made}
use Rattle.calls.specs.Stores.{Held, Enough}
use Rattle.calls.specs.Sheets.{within, empty_sheet, make_headed}
use Rattle.calls.specs.Views.{Orderly, plain_in}
use Rattle.calls.specs.Exact.{MakeExact, MakeIsExact}
use Rattle.calls.proofs.Bytes.{HeaderTold, header_told}
use Rattle.calls.proofs.Enough.{enough_holds}
use Rattle.calls.proofs.Filled.{none_passed}

-- the header in the subject's words
abbrev subjects : HeaderRow → Header
subjects H =
    record { letter = H.letter; labels = H.labels; free = H.free; terms = H.terms; constraints = H.constraints }

-- what a header that was read says where a make is granted
abbrev Agrees : ℕ → Option HeaderRow → Type 0
Agrees letter None = ⊥
Agrees letter (Some G) = (eqb G.letter letter ≡ true) × (within G ≡ true)

agrees : (letter : ℕ) (bs : List ℕ) (H : Header) → Made letter bs H → Agrees letter (header_in bs)
agrees letter bs H m =
    subst (λ (l : List ℕ). Agrees letter (header_in l)) (sym m.bytes) (
      eq-eqb _ _ m.the_kinds,
      and_from _ _ (le-leb _ _ m.names_fit) (and_from _ _ (le-leb _ _ m.terms_fit) (le-leb _ _ m.constraints_fit)),
    )

module _ (letter : ℕ) (h : Held) (bs : List ℕ) (b : Enough h) where
  -- the empty sheet of a header
  begun : (G : HeaderRow) → within G ≡ true → Orderly (empty_sheet G) h
  begun G e =
      let p = and_parts (leb (G.labels + G.free) 32) _ e in
      let q = and_parts (leb G.terms 64) (leb G.constraints 128) p.1 in
      search (arith, leb-true _ _ p.0, leb-true _ _ q.0, leb-true _ _ q.1, none_passed (plain_in (empty_sheet G) h) refl refl)

  by_within :
      (G : HeaderRow) → header_in bs ≡ Some G → HeaderTold bs (Some G) → eqb G.letter letter ≡ true →
      (z : Bool) → within G ≡ z → MakeExact letter h bs (cond z (Ok (empty_sheet G)) (Err OverLimit))
  by_within G e told el true ew =
      let o = begun G ew in (
        o,
        (
          subjects G,
          record {
            bytes = told;
            the_kinds = eqb-true _ _ el;
            names_fit = o.few_names;
            terms_fit = o.few_terms;
            constraints_fit = o.few_constraints;
          },
          refl,
        ),
      )
  by_within G e told el false ew =
      λ H m. both_ways (within G) ew (subst (Agrees letter) e (agrees letter bs H m)).1

  by_letter :
      (G : HeaderRow) → header_in bs ≡ Some G → HeaderTold bs (Some G) → (z : Bool) → eqb G.letter letter ≡ z →
      MakeExact letter h bs
      (cond z (cond (within G) (Ok (empty_sheet G)) (Err OverLimit)) (Err (WrongLetter G.letter)))
  by_letter G e told true el = by_within G e told el (within G) refl
  by_letter G e told false el =
      λ H m. both_ways (eqb G.letter letter) el (subst (Agrees letter) e (agrees letter bs H m)).0

  by_header :
      (x : Option HeaderRow) → header_in bs ≡ x → HeaderTold bs x → MakeExact letter h bs (make_headed letter x)
  by_header None e told = λ H m. subst (Agrees letter) e (agrees letter bs H m)
  by_header (Some G) e told = by_letter G e told (eqb G.letter letter) refl

pub make_exact : MakeIsExact
make_exact letter h bs b =
    rw (enough_holds h b) (by_header letter h bs b (header_in bs) refl (header_told bs))
