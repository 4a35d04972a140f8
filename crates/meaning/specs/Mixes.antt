-- The calls in the subject's words: what each call grants at which stage, what a mix of calls reaches, and
-- what a listing tells. No call is computed here: a call is granted exactly where a case of `Grants` says so.
use Rattle.std.specs.Prelude.{◌≡◌, ℕ, ◌+◌, ◌*◌, ◌<◌, ◌≤◌, Bool, true, false, cond, ◌↔◌, List, [], ◌∷◌, ◌++◌, map, length, nat_lt, slice_index_or}
use mathlib.Core.List.{Memᴰ as Mem}
use Rattle.std.proofs.Math.Option.{some}
use Rattle.std.proofs.Math.ListN.{get_elem?}
use Rattle.std.specs.List.{flat_map, AllByRecursion}
use Rattle.meaning.specs.Terms.{Op, variable, empty, single, union, inter, diff, transp, prod, join, closure}
use Rattle.meaning.specs.Terms.{Row, Form, member, equal, same, Fact, Sheet, names, OpFits, FormFits}
use Rattle.meaning.specs.Meaning.{CodeMeaning, Thing, Interp, Value, Satisfies}
use Rattle.meaning.specs.Calculus.{Alt, Branch, extend, Fork, State, running, closed, apply, Applies, start}
use Rattle.meaning.specs.Model.{rep, Lawful, thing, row_is_variable, Named}
use Rattle.meaning.specs.Text.{Line, opened, name, inside}
use Rattle.meaning.specs.Text

-- The limits of a sheet: names, terms and constraints.
abbrev pub most_sheet_names : ℕ
most_sheet_names = 32

abbrev pub most_terms : ℕ
most_terms = 64

abbrev pub most_constraints : ℕ
most_constraints = 128

-- The limits of a trial: names and facts of a branch, forks that are open, tuples in all terms' values
-- together, records granted, and how far denied steps are counted.
abbrev pub most_names : ℕ
most_names = 64

abbrev pub most_facts : ℕ
most_facts = 1024

abbrev pub most_forks : ℕ
most_forks = 64

abbrev pub most_tuples : ℕ
most_tuples = 4096

abbrev pub most_records : ℕ
most_records = 1000000

abbrev pub most_denied : ℕ
most_denied = 65535

-- Four bytes: the first four of these, with zeros where there are none.
abbrev pub four : List ℕ → List ℕ
four [] = 0 ∷ 0 ∷ 0 ∷ 0 ∷ []
four (a ∷ []) = a ∷ 0 ∷ 0 ∷ 0 ∷ []
four (a ∷ b ∷ []) = a ∷ b ∷ 0 ∷ 0 ∷ []
four (a ∷ b ∷ c ∷ []) = a ∷ b ∷ c ∷ 0 ∷ []
four (a ∷ b ∷ c ∷ d ∷ more) = a ∷ b ∷ c ∷ d ∷ []

-- The number of an operation.
abbrev pub op_code : Op → ℕ
op_code variable = 0
op_code empty = 1
op_code (single v) = 2
op_code (union s r) = 3
op_code (inter s r) = 4
op_code (diff s r) = 5
op_code (transp s) = 6
op_code (prod s r) = 7
op_code (join s r) = 8
op_code (closure s) = 9

-- Its operands: the names of a singleton's tuple, or the numbers of terms.
abbrev pub operands : Op → List ℕ
operands variable = []
operands empty = []
operands (single v) = v
operands (union s r) = s ∷ r ∷ []
operands (inter s r) = s ∷ r ∷ []
operands (diff s r) = s ∷ r ∷ []
operands (transp s) = s ∷ []
operands (prod s r) = s ∷ r ∷ []
operands (join s r) = s ∷ r ∷ []
operands (closure s) = s ∷ []

-- A term row as bytes: operation, arity, four operands.
abbrev pub row_bytes : Row → List ℕ
row_bytes r = op_code r.op ∷ r.arity ∷ four (operands r.op)

-- A sign as a byte.
abbrev pub sign_byte : Bool → ℕ
sign_byte true = 1
sign_byte false = 0

-- A form with a sign byte as bytes: form, sign, term, four names.
abbrev pub form_bytes : ℕ → Form → List ℕ
form_bytes g (member u t) = 1 ∷ g ∷ t ∷ four u
form_bytes g (equal a b) = 2 ∷ g ∷ 0 ∷ four (a ∷ b ∷ [])
form_bytes g (same s r) = 3 ∷ g ∷ s ∷ four (r ∷ [])

-- A fact as bytes.
abbrev pub fact_bytes : Fact → List ℕ
fact_bytes f = form_bytes (sign_byte f.sign) f.form

-- The number that four bytes are, highest first.
abbrev pub code : ℕ → ℕ → ℕ → ℕ → ℕ
code a b c d = ((a * 256 + b) * 256 + c) * 256 + d

-- A header: the kind's letter, how many labels, free names, terms and constraints the sheet is to have.
pub record Header : Type 0 where
  pub letter : ℕ
  pub labels : ℕ
  pub free : ℕ
  pub terms : ℕ
  pub constraints : ℕ

-- A make is granted: the bytes are an SH record, its letter is the kind's, and the limits are kept.
pub record Made (letter : ℕ) (bs : List ℕ) (H : Header) : Type 0 where
  pub bytes : bs ≡ 83 ∷ 72 ∷ H.letter ∷ H.labels ∷ H.free ∷ H.terms ∷ H.constraints ∷ []
  pub the_kinds : H.letter ≡ letter
  pub names_fit : H.labels + H.free ≤ most_sheet_names
  pub terms_fit : H.terms ≤ most_terms
  pub constraints_fit : H.constraints ≤ most_constraints

-- A sheet while its rows come in: how many of each are due in all, and the rows granted so far.
pub record Draft : Type 0 where
  pub labels : ℕ
  pub terms : ℕ
  pub constraints : ℕ
  pub sheet : Sheet

-- The draft that a granted make begins with.
abbrev pub fresh : Header → Draft
fresh H = record {
  labels = H.labels;
  terms = H.terms;
  constraints = H.constraints;
  sheet = record { codes = []; free = H.free; rows = []; constraints = [] };
}

-- The draft with another sheet.
abbrev pub drafted : Draft → Sheet → Draft
drafted D S = record { labels = D.labels; terms = D.terms; constraints = D.constraints; sheet = S }

-- A sheet with one code, term row or constraint more.
abbrev pub with_code : Sheet → ℕ → Sheet
with_code S c =
    record { codes = S.codes ++ (c ∷ []); free = S.free; rows = S.rows; constraints = S.constraints }

abbrev pub with_row : Sheet → Row → Sheet
with_row S r =
    record { codes = S.codes; free = S.free; rows = S.rows ++ (r ∷ []); constraints = S.constraints }

abbrev pub with_constraint : Sheet → Fact → Sheet
with_constraint S f =
    record { codes = S.codes; free = S.free; rows = S.rows; constraints = S.constraints ++ (f ∷ []) }

-- The verdict of a trial: none yet, every branch closed, or a model by these representatives.
pub data Verdict : Type 0 where
  undecided : Verdict
  CLOSED : Verdict
  OPEN : List ℕ → Verdict

-- There is a verdict.
abbrev pub Decided : Verdict → Type 0
Decided undecided = ⊥
Decided CLOSED = Unit {0}
Decided (OPEN rs) = Unit {0}

-- A trial: the sealed sheet, the state of the calculus, how many records were granted and how many steps
-- denied, and the verdict.
pub record Trial : Type 0 where
  pub sheet : Sheet
  pub state : State
  pub granted : ℕ
  pub denied : ℕ
  pub verdict : Verdict

-- The trial that a granted seal begins with.
abbrev pub sealed : Sheet → Trial
sealed S = record { sheet = S; state = start S; granted = 0; denied = 0; verdict = undecided }

-- The verdict that a state of the calculus brings: CLOSED exactly where it is closed.
abbrev pub verdict_at : State → Verdict
verdict_at (running b fs) = undecided
verdict_at closed = CLOSED

-- The trial after a rule step to the state x.
abbrev pub moved : Trial → State → Trial
moved T x = record {
  sheet = T.sheet;
  state = x;
  granted = T.granted + 1;
  denied = T.denied;
  verdict = verdict_at x;
}

-- The trial after a model with the representatives rs.
abbrev pub modelled : Trial → List ℕ → Trial
modelled T rs = record {
  sheet = T.sheet;
  state = T.state;
  granted = T.granted + 1;
  denied = T.denied;
  verdict = OPEN rs;
}

-- A count of denied steps, one further, up to the limit.
abbrev pub one_more : ℕ → ℕ
one_more n = cond (nat_lt n most_denied) (n + 1) n

-- The trial after a denied step.
abbrev pub counted : Trial → Trial
counted T = record {
  sheet = T.sheet;
  state = T.state;
  granted = T.granted;
  denied = one_more T.denied;
  verdict = T.verdict;
}

-- Where a mix stands: rows come in, or a trial goes on, or it is settled.
pub data Stage : Type 0 where
  filling : Draft → Stage
  trying : Trial → Stage
  settled : Trial → Stage

-- The calls after make: add and step take the bytes of one record.
pub data Call : Type 0 where
  add : List ℕ → Call
  seal : Call
  step : List ℕ → Call
  settle : Call

-- A rule step has room: each alternative leaves a branch within the limits, and where there are two or more
-- another fork may be open.
pub record Room (b : Branch) (fs : List Fork) (alts : List Alt) : Type 0 where
  pub names_fit : AllByRecursion (λ (a : Alt). (extend b a).count ≤ most_names) alts
  pub facts_fit : AllByRecursion (λ (a : Alt). length (extend b a).facts ≤ most_facts) alts
  pub forks_fit : 2 ≤ length alts → length fs < most_forks

-- No member of the list is there twice.
abbrev pub Once : {X : Type 0} → List X → Type 0
Once [] = Unit {0}
Once (x ∷ l) = ¬ (Mem x l) × Once l

-- The list has exactly the elements of P, each once.
pub record Exactly {X : Type 0} (P : X → Type 0) (l : List X) : Type 0 where
  pub all : (x : X) → P x → Mem x l
  pub only : (x : X) → Mem x l → P x
  pub once : Once l

-- How many members lists have together.
abbrev pub total : {X : Type 0} → List (List X) → ℕ
total [] = 0
total (l ∷ ls) = length l + total ls

-- The values of all terms, names by their representatives, have at most so many tuples together: there is a
-- list for each row, with exactly the tuples of that term's value, each once.
pub record Few (S : Sheet) (rs : List ℕ) (facts : List Fact) (most : ℕ) : Type 0 where
  pub lists : List (List (List ℕ))
  pub one_each : length lists ≡ length S.rows
  pub exact : (t : ℕ) → t < length S.rows →
      Exactly (Value S.rows (Named S rs facts) t) (slice_index_or lists t [])
  pub few : total lists ≤ most

-- `Grants K st c st'`: under the meaning K of codes, the call c is granted at the stage st and leads to st'.
pub data Grants (K : CodeMeaning) : Stage → Call → Stage → Type 0 where
  -- A label row, LB: one is due, and the code is known.
  label_row : {D : Draft} (a b c d : ℕ) {x : ℕ} →
      length D.sheet.codes < D.labels →
      K (code a b c d) ≡ some x →
      Grants K (filling D)
      (add (76 ∷ 66 ∷ a ∷ b ∷ c ∷ d ∷ []))
      (filling (drafted D (with_code D.sheet (code a b c d))))
  -- A term row, TM: all labels are in, a term is due, its arity is 1 to 4, and it fits the rows before it.
  term_row : {D : Draft} (r : Row) →
      length D.sheet.codes ≡ D.labels →
      length D.sheet.rows < D.terms →
      1 ≤ r.arity →
      r.arity ≤ 4 →
      OpFits D.sheet.rows (names D.sheet) (length D.sheet.rows) r.arity r.op →
      Grants K (filling D)
      (add (84 ∷ 77 ∷ row_bytes r))
      (filling (drafted D (with_row D.sheet r)))
  -- A constraint row, CN: all labels and terms are in, a constraint is due, and it fits the rows.
  constraint_row : {D : Draft} (f : Fact) →
      length D.sheet.codes ≡ D.labels →
      length D.sheet.rows ≡ D.terms →
      length D.sheet.constraints < D.constraints →
      FormFits D.sheet.rows (names D.sheet) f.form →
      Grants K (filling D)
      (add (67 ∷ 78 ∷ fact_bytes f))
      (filling (drafted D (with_constraint D.sheet f)))
  -- A seal: no row is due.
  full_sheet : {D : Draft} →
      length D.sheet.codes ≡ D.labels →
      length D.sheet.rows ≡ D.terms →
      length D.sheet.constraints ≡ D.constraints →
      Grants K (filling D) seal (trying (sealed D.sheet))
  -- A rule step, ST: no verdict yet, records are left, the rule applies, and there is room.
  rule_step : {T : Trial} {b : Branch} {fs : List Fork} {alts : List Alt} (r ph pl qh ql t w : ℕ) →
      T.verdict ≡ undecided →
      T.state ≡ running b fs →
      T.granted < most_records →
      Applies K T.sheet b r (ph * 256 + pl) (qh * 256 + ql) t w alts →
      Room b fs alts →
      Grants K (trying T)
      (step (83 ∷ 84 ∷ r ∷ ph ∷ pl ∷ qh ∷ ql ∷ t ∷ w ∷ []))
      (trying (moved T (apply b alts fs)))
  -- A model step, MD: no verdict yet, records are left, the representatives are lawful, the values fit, and
  -- every constraint holds by representatives.
  model_step : {T : Trial} {b : Branch} {fs : List Fork} (count : ℕ) (rs : List ℕ) →
      T.verdict ≡ undecided →
      T.state ≡ running b fs →
      T.granted < most_records →
      length rs ≡ count →
      Lawful K T.sheet b.count rs →
      Few T.sheet rs b.facts most_tuples →
      Satisfies T.sheet (Named T.sheet rs b.facts) →
      Grants K (trying T)
      (step (77 ∷ 68 ∷ count ∷ rs))
      (trying (modelled T rs))
  -- A settle: there is a verdict.
  verdict_there : {T : Trial} →
      Decided T.verdict →
      Grants K (trying T) settle (settled T)

-- The call has its turn at the stage: add and seal while rows come in, step and settle while a trial goes on.
abbrev pub Turn : Stage → Call → Type 0
Turn (filling D) (add bs) = Unit {0}
Turn (filling D) seal = Unit {0}
Turn (filling D) (step bs) = ⊥
Turn (filling D) settle = ⊥
Turn (trying T) (add bs) = ⊥
Turn (trying T) seal = ⊥
Turn (trying T) (step bs) = Unit {0}
Turn (trying T) settle = Unit {0}
Turn (settled T) c = ⊥

-- What a denied call leaves: all as it was, but that a denied step is counted.
abbrev pub denied_at : Stage → Call → Stage
denied_at (trying T) (step bs) = trying (counted T)
denied_at (trying T) (add bs) = trying T
denied_at (trying T) seal = trying T
denied_at (trying T) settle = trying T
denied_at (filling D) c = filling D
denied_at (settled T) c = settled T

-- One call goes from a stage to the next: it is granted, or it has its turn, no case grants it, and it is
-- denied.
pub data Goes (K : CodeMeaning) : Stage → Call → Stage → Type 0 where
  granted : {st st' : Stage} {c : Call} → Grants K st c st' → Goes K st c st'
  denied : {st : Stage} {c : Call} →
      Turn st c →
      ((st' : Stage) → Grants K st c st' → ⊥) →
      Goes K st c (denied_at st c)

-- A mix of calls, one after another.
pub data Mix (K : CodeMeaning) : Stage → List Call → Stage → Type 0 where
  end : {st : Stage} → Mix K st [] st
  next : {x y z : Stage} {c : Call} {cs : List Call} → Goes K x c y → Mix K y cs z → Mix K x (c ∷ cs) z

-- The lines of the names from e on with their representatives.
abbrev pub name_lines : List ℕ → ℕ → List Line
name_lines [] e = []
name_lines (r ∷ rs) e = name e r ∷ name_lines rs (e + 1)

-- The line of a positive fact on a variable, names by representative; another fact has none.
abbrev pub in_line : Sheet → List ℕ → Bool → Form → List Line
in_line S rs true (member u t) =
    cond (row_is_variable (get_elem? S.rows t)) (inside t (map (rep rs) u) ∷ []) []
in_line S rs false (member u t) = []
in_line S rs g (equal a b) = []
in_line S rs g (same s r) = []

-- Those lines of a branch's facts, in order.
abbrev pub in_lines : Sheet → List ℕ → List Fact → List Line
in_lines S rs facts = flat_map (λ (f : Fact). in_line S rs f.sign f.form) facts

-- The facts of a state's branch.
abbrev pub facts_of : State → List Fact
facts_of (running b fs) = b.facts
facts_of closed = []

-- What is listed for a verdict after g granted records.
abbrev pub verdict_lines : Sheet → ℕ → List Fact → Verdict → List Line
verdict_lines S g facts undecided = []
verdict_lines S g facts CLOSED = Text.closed g ∷ []
verdict_lines S g facts (OPEN rs) = opened g ∷ (name_lines rs 0 ++ in_lines S rs facts)

-- The listing that settling a trial brings.
abbrev pub listing : Trial → List Line
listing T = verdict_lines T.sheet T.granted (facts_of T.state) T.verdict

-- The lines ls tell the interpretation I: where a line says `name e r`, the name e means the label value of r
-- if r is labelled, else the unlabelled thing r; and a variable holds exactly the tuples of its `in` lines.
pub record Tells (K : CodeMeaning) (S : Sheet) (ls : List Line) (I : Interp Thing) : Type 0 where
  pub names_told : (e r : ℕ) → Mem (name e r) ls → I.name e ≡ thing K S r
  pub tuples_told : (t : ℕ) (u : List Thing) →
      Mem u (I.rel t) ↔ ((us : List ℕ) × Mem (inside t us) ls × (u ≡ map (thing K S) us))
