-- Facts by their form: a row with a known form and sign is read as the fact that its bytes say (`read_as`).
use Rattle.std.proofs.Common.{◌≡◌, ℕ, Bool, true, false, cond, eqb, List, sym, refl, eqb-true}
use Rattle.std.proofs.lemmas.Bool.{and_parts}
use Rattle.records.specs.declared.rows.Fact.{Fact as FactRow}
use Rattle.records.specs.declared.rows.TermRow.{TermRow}
use Rattle.records.specs.declared.tuple.Tuple.{Tuple}
use Rattle.records.specs.Tuples as tuple
use Rattle.records.specs.Tuples.{equal_names}
use Rattle.rules.specs.Facts as fact
use Rattle.rules.specs.Facts.{is_in, is_eq, is_same, fact_names, equal_facts}
use Rattle.meaning.specs.Terms.{Form, member, equal, same, signed, pos, neg}
use Rattle.calls.specs.Reading.{tuple_of, read_form, read_fact, write_form}
use Rattle.calls.proofs.Truth.{eqb_self}

-- a form by its number
abbrev pub form_of : List ℕ → FactRow → ℕ → Form
form_of u f k =
    cond (eqb k 1) (member u f.term) (cond (eqb k 2) (equal f.a f.b) (same f.term f.a))

module _ (rows : List TermRow) (f : FactRow) where
  -- a row with its form and its sign known
  read_as :
      (g : Bool) (k : ℕ) → f.positive ≡ g → f.form ≡ k → signed g (form_of (tuple_of rows f) f k) ≡ read_fact
      rows f
  read_as g k eg ek = λ i. signed (sym eg i) (form_of (tuple_of rows f) f (sym ek i))

  -- positive, by the test
  pub read_in : is_in f ≡ true → pos (member (tuple_of rows f) f.term) ≡ read_fact rows f
  read_in e =
      let r = and_parts (eqb f.form 1) f.positive e in
      read_as true 1 r.1 (eqb-true f.form 1 r.0)

  pub read_eq : is_eq f ≡ true → pos (equal f.a f.b) ≡ read_fact rows f
  read_eq e =
      let r = and_parts (eqb f.form 2) f.positive e in
      read_as true 2 r.1 (eqb-true f.form 2 r.0)

  pub read_same : is_same f ≡ true → pos (same f.term f.a) ≡ read_fact rows f
  read_same e =
      let r = and_parts (eqb f.form 3) f.positive e in
      read_as true 3 r.1 (eqb-true f.form 3 r.0)

  -- of either sign
  pub form_in : f.form ≡ 1 → signed f.positive (member (tuple_of rows f) f.term) ≡ read_fact rows f
  form_in e = read_as f.positive 1 refl e

  pub form_eq : f.form ≡ 2 → signed f.positive (equal f.a f.b) ≡ read_fact rows f
  form_eq e = read_as f.positive 2 refl e

  pub form_same : f.form ≡ 3 → signed f.positive (same f.term f.a) ≡ read_fact rows f
  form_same e = read_as f.positive 3 refl e

  -- negative
  pub read_not_eq : f.positive ≡ false → f.form ≡ 2 → neg (equal f.a f.b) ≡ read_fact rows f
  read_not_eq g e = read_as false 2 g e

  pub read_not_same : f.positive ≡ false → f.form ≡ 3 → neg (same f.term f.a) ≡ read_fact rows f
  read_not_same g e = read_as false 3 g e

-- equal parts read as equal forms
pub names_are : (u v : Tuple) → equal_names u v ≡ true → u ≡ v
names_are u v e =
    let r = and_parts (eqb u.a v.a) _ e in
    let r₁ = and_parts (eqb u.b v.b) _ r.1 in
    let r₂ = and_parts (eqb u.c v.c) _ r₁.1 in
    let ea = eqb-true u.a v.a r.0 in
    let eb = eqb-true u.b v.b r₁.0 in
    let ec = eqb-true u.c v.c r₂.0 in
    let ed = eqb-true u.d v.d r₂.1 in
    λ i. tuple.names (ea i) (eb i) (ec i) (ed i)

pub forms_are :
    (rows : List TermRow) (f g : FactRow) → equal_facts f g ≡ true → read_form rows f ≡ read_form rows g
forms_are rows f g e =
    let r = and_parts (eqb f.form g.form) _ e in
    let r₁ = and_parts (eqb f.term g.term) _ r.1 in
    let ef = eqb-true f.form g.form r.0 in
    let et = eqb-true f.term g.term r₁.0 in
    let en = names_are (fact_names f) (fact_names g) r₁.1 in
    λ i.
    read_form rows
    (record f { form = ef i; term = et i; a = (en i).a; b = (en i).b; c = (en i).c; d = (en i).d })

-- a form equals itself, whatever the signs
pub facts_self : (g h : Bool) (f : Form) → fact.equal_facts (write_form g f) (write_form h f) ≡ true
facts_self g h (member u t) = simp eqb_self
facts_self g h (equal a b) = simp eqb_self
facts_self g h (same s r) = simp eqb_self
