-- Alternatives that fit are read back as they were written, and fit then too (`alts_back`, `alts_kept`).
use Rattle.std.proofs.Common.{◌≡◌, ℕ, ◌+◌, ◌≤◌, Bool, List, [], ◌∷◌, map, length, get_or, take, sym, refl, ap, ◌∙◌, subst, ap₂, arith}
use mathlib.Core.Option.{Option}
use Rattle.std.specs.List.{AllByRecursion}
use Rattle.records.specs.declared.rows.Fact.{Fact as FactRow}
use Rattle.rules.specs.declared.cited.Alt.{Alt as AltRow}
use Rattle.meaning.specs.Terms.{Form, member, equal, same, Fact, signed, FormFits}
use Rattle.meaning.specs.Calculus.{Alt, equalities, Rule}
use Rattle.meaning.specs.Calculus.{single_down}
use Rattle.meaning.specs.Calculus.{tclos_down}
use Rattle.calls.specs.Reading.{four, read_form, read_fact, write_fact, write_form, write_alt, read_alt, alt_facts}
use Rattle.calls.specs.Reading.{Plain, read_sheet, FactFits, Good}
use Rattle.meaning.proofs.RuleFits.{form_up, Fits, AltsFit}
use Rattle.calls.proofs.Rows.{arity_of, arity_low, full}

-- a tuple of up to four names, written and read
pub took :
    (u : List ℕ) → length u ≤ 4 →
    take (length u) (four (get_or u 0 0) (get_or u 1 0) (get_or u 2 0) (get_or u 3 0)) ≡ u
took [] h = refl
took (x ∷ []) h = refl
took (x ∷ y ∷ []) h = refl
took (x ∷ y ∷ z ∷ []) h = refl
took (x ∷ y ∷ z ∷ v ∷ []) h = refl
took _ h = absurd (omega arith)

-- there are no more equalities than places
few_equalities : (u v : List ℕ) → length (equalities u v) ≤ length u
few_equalities [] v = omega arith
few_equalities (x ∷ u) [] = omega arith
few_equalities (x ∷ u) (y ∷ v) = let h = few_equalities u v in omega arith

module _ (K : ℕ → Option ℕ) (P : Plain) (good : Good P) where
  -- the forms of these facts fit
  abbrev FormsFit : ℕ → List Fact → Type 0
  FormsFit m fs = AllByRecursion (λ (f : Fact). FormFits (read_sheet P).rows m f.form) fs

  -- no alternative has more than four facts
  abbrev Few : List Alt → Type 0
  Few alts = AllByRecursion (λ (a : Alt). length a.facts ≤ 4) alts

  -- an alternative of these facts, written
  abbrev row_of_facts : List Fact → AltRow
  row_of_facts fs = write_alt (record { fresh = 0; facts = fs })

  -- ── read back ────────────────────────────────────────────────────────────

  pub fact_back :
      (m : ℕ) (f : Fact) → FormFits (read_sheet P).rows m f.form → read_fact P.rows (write_fact f) ≡ f
  fact_back m f b = go f.sign f.form b
    where
      go :
          (g : Bool) (k : Form) → FormFits (read_sheet P).rows m k →
          ◌≡◌ {A = Fact} (read_fact P.rows (write_form g k)) (signed g k)
      go g (member u t) b =
          let w = four (get_or u 0 0) (get_or u 1 0) (get_or u 2 0) (get_or u 3 0) in
          let e = ap (λ (k : ℕ). take k w) (arity_of P b.0) ∙ took u (arity_low P good b.0).1 in
          λ i. signed g (member (e i) t)
      go g (equal x y) b = refl
      go g (same s r) b = refl

  facts_back :
      (m : ℕ) (fs : List Fact) → length fs ≤ 4 → FormsFit m fs →
      (read_alt P.rows (row_of_facts fs)).facts ≡ fs
  facts_back m [] l b = refl
  facts_back m (f ∷ []) l b = cc (fact_back m f b.0)
  facts_back m (f ∷ g ∷ []) l b = cc (fact_back m f b.0, fact_back m g b.1.0)
  facts_back m (f ∷ g ∷ h ∷ []) l b = cc (fact_back m f b.0, fact_back m g b.1.0, fact_back m h b.1.1.0)
  facts_back m (f ∷ g ∷ h ∷ k ∷ []) l b =
      cc (fact_back m f b.0, fact_back m g b.1.0, fact_back m h b.1.1.0, fact_back m k b.1.1.1.0)
  facts_back m _ l b = absurd (omega arith)

  pub alts_back :
      (n : ℕ) (alts : List Alt) → Few alts → AltsFit K (read_sheet P) (full P good) n alts →
      map (read_alt P.rows) (map write_alt alts) ≡ alts
  alts_back n [] l b = refl
  alts_back n (a ∷ alts) l b =
      let e = facts_back (n + a.fresh) a.facts l.0 b.0 in
      ap₂ ◌∷◌ (λ i. record a { facts = e i }) (alts_back n alts l.1 b.1)

  -- ── no alternative has more than four facts ──────────────────────────────

  pub few :
      {n r t w : ℕ} {ps : List Fact} {alts : List Alt} → Rule K (read_sheet P) n r t w ps alts →
      AllByRecursion (Fits K (read_sheet P) (full P good) n) ps → Few alts
  few (single_down {u = u} {v = v} is) b =
      let l = arity_low P good b.0.0 in
      let h = few_equalities u v in
      (omega arith, tt)
  few (tclos_down is) b = search arith
  few _ b = search arith

  -- ── what is written fits ─────────────────────────────────────────────────

  fact_kept : (m : ℕ) (f : Fact) → FormFits (read_sheet P).rows m f.form → FactFits P m (write_fact f)
  fact_kept m f b =
      let e = fact_back m f b in
      record {
        written = ap write_fact e;
        fits = subst (λ (x : Fact). FormFits (read_sheet P).rows m x.form) (sym e) b;
      }

  facts_kept :
      (m : ℕ) (fs : List Fact) → length fs ≤ 4 → FormsFit m fs →
      AllByRecursion (FactFits P m) (alt_facts (row_of_facts fs))
  facts_kept m [] l b = tt
  facts_kept m (f ∷ []) l b = (fact_kept m f b.0, tt)
  facts_kept m (f ∷ g ∷ []) l b = (fact_kept m f b.0, (fact_kept m g b.1.0, tt))
  facts_kept m (f ∷ g ∷ h ∷ []) l b =
      (fact_kept m f b.0, (fact_kept m g b.1.0, (fact_kept m h b.1.1.0, tt)))
  facts_kept m (f ∷ g ∷ h ∷ k ∷ []) l b = (
    fact_kept m f b.0,
    (fact_kept m g b.1.0, (fact_kept m h b.1.1.0, (fact_kept m k b.1.1.1.0, tt))),
  )
  facts_kept m _ l b = absurd (omega arith)

  pub alts_kept :
      (n : ℕ) (alts : List Alt) → Few alts → AltsFit K (read_sheet P) (full P good) n alts →
      AllByRecursion (λ (a : AltRow). AllByRecursion (FactFits P (n + a.fresh)) (alt_facts a)) (map write_alt alts)
  alts_kept n [] l b = tt
  alts_kept n (a ∷ alts) l b =
      (facts_kept (n + a.fresh) a.facts l.0 b.0, alts_kept n alts l.1 b.1)

  -- facts fit a branch with more names too
  pub facts_up : (n m : ℕ) → n ≤ m → (fs : List FactRow) → AllByRecursion (FactFits P n) fs → AllByRecursion (FactFits P m) fs
  facts_up n m l [] b = tt
  facts_up n m l (f ∷ fs) b = (
    record {
      written = b.0.written;
      fits = form_up (read_sheet P).rows n m l (read_form P.rows f) b.0.fits;
    },
    facts_up n m l fs b.1,
  )
