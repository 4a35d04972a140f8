-- What a step cites: the fields that its rule mentions, the facts, rows and labels in question; and its plan.
use Rattle.std.specs.Prelude.{ℕ, Bool, true, false, cond, ◌&&◌, List, Some, None, Ok, Err, Option, Result, ◌==◌, slice_index_or}
use Rattle.std.proofs.Math.Option as maybe
use Rattle.std.proofs.Math.ListN.{get_elem?}
use Rattle.std.specs.List.{slice_get}
use Rattle.records.specs.declared.rows.Fact.{Fact}
use Rattle.records.specs.declared.rows.TermRow.{TermRow}
use Rattle.records.specs.declared.rows.Step.{Step}
use Rattle.records.specs.declared.rule.Rule.{Rule}
use Rattle.records.specs.declared.rule.Rule.TheVariants.{
  InterUp,
  InterDown,
  UnionUp,
  UnionDown,
  DiffUp,
  DiffDown,
  SingleUp,
  SingleDown,
  EmptyUnsat,
  SetDiseq,
  EqUnsat,
  TranspUp,
  TranspDown,
  JoinUp,
  JoinDown,
  ProdUp,
  ProdDown,
  ClosUpOne,
  ClosUpTwo,
  ClosDown,
  Sym,
  SwapName,
  SwapTerm,
  LabelUnsat,
  LabelSame,
}
use Rattle.records.specs.declared.refusal.Refusal.{Refusal}
use Rattle.records.specs.declared.refusal.Refusal.TheVariants.{NoRule, NotOnBranch, NotMet}
use Rattle.rules.specs.declared.cited.Cited.{Cited}
use Rattle.rules.specs.declared.cited.Plan.{Plan}
use Rattle.rules.specs.declared.cited.Uses.{Uses}
use Rattle.records.specs.Kinds.{rule_of}
use Rattle.rules.specs.Facts.{no_fact, no_row}
use Rattle.rules.specs.Rules.{line_met}

-- ── the fields that a rule mentions ────────────────────────────────────────

-- the four answers together
abbrev pub use_of : Bool → Bool → Bool → Bool → Uses
use_of x y z v = record { p = x; q = y; t = z; w = v }

-- which fields each rule mentions
abbrev pub uses : Rule → Uses
uses InterUp = use_of true true true false
uses InterDown = use_of true false false false
uses UnionUp = use_of true false true false
uses UnionDown = use_of true false false false
uses DiffUp = use_of true false true false
uses DiffDown = use_of true false false false
uses SingleUp = use_of false false true false
uses SingleDown = use_of true false false false
uses EmptyUnsat = use_of true false false false
uses SetDiseq = use_of true false false false
uses EqUnsat = use_of true true false false
uses TranspUp = use_of true false true false
uses TranspDown = use_of true false false false
uses JoinUp = use_of true true true false
uses JoinDown = use_of true false false false
uses ProdUp = use_of true true true false
uses ProdDown = use_of true false false false
uses ClosUpOne = use_of true false true false
uses ClosUpTwo = use_of true true false false
uses ClosDown = use_of true false false false
uses Sym = use_of true false false false
uses SwapName = use_of true true false true
uses SwapTerm = use_of true true false true
uses LabelUnsat = use_of true false false false
uses LabelSame = use_of false false true true

-- a field that its rule does not mention is zero
abbrev pub untouched : Bool → ℕ → Bool
untouched true x = true
untouched false x = x == 0

-- all the fields that the rule does not mention are zero
abbrev pub zeros_kept : Rule → Step → Bool
zeros_kept r x =
    untouched (uses r).p x.p &&
    (untouched (uses r).q x.q && (untouched (uses r).t x.t && untouched (uses r).w x.w))

-- ── look-ups ───────────────────────────────────────────────────────────────

-- fact number p, where the rule mentions it
abbrev pub looked : Bool → List Fact → ℕ → Option Fact
looked true fs p = slice_get fs p
looked false fs p = Some no_fact

-- the row of term t; past the last term it is no row
abbrev pub row_at : List TermRow → ℕ → TermRow
row_at rows t = slice_index_or rows t no_row

-- the value of a code, if there is a code
abbrev pub coded : (ℕ → maybe.Option ℕ) → maybe.Option ℕ → maybe.Option ℕ
coded K maybe.none = maybe.none
coded K (maybe.some c) = K c

-- the value of the label of name e
abbrev pub label_at : (ℕ → maybe.Option ℕ) → List ℕ → ℕ → maybe.Option ℕ
label_at K codes e = coded K (get_elem? codes e)

-- whether two values are the same, where both are there
abbrev pub compared : maybe.Option ℕ → maybe.Option ℕ → Option Bool
compared maybe.none y = None
compared (maybe.some x) maybe.none = None
compared (maybe.some x) (maybe.some y) = Some (x == y)

-- the labels in question: those of p's names for LabelUnsat, those of the names t and w for LabelSame
abbrev pub labels_for : (ℕ → maybe.Option ℕ) → List ℕ → Rule → Fact → ℕ → ℕ → Option Bool
labels_for K codes InterUp f t w = None
labels_for K codes InterDown f t w = None
labels_for K codes UnionUp f t w = None
labels_for K codes UnionDown f t w = None
labels_for K codes DiffUp f t w = None
labels_for K codes DiffDown f t w = None
labels_for K codes SingleUp f t w = None
labels_for K codes SingleDown f t w = None
labels_for K codes EmptyUnsat f t w = None
labels_for K codes SetDiseq f t w = None
labels_for K codes EqUnsat f t w = None
labels_for K codes TranspUp f t w = None
labels_for K codes TranspDown f t w = None
labels_for K codes JoinUp f t w = None
labels_for K codes JoinDown f t w = None
labels_for K codes ProdUp f t w = None
labels_for K codes ProdDown f t w = None
labels_for K codes ClosUpOne f t w = None
labels_for K codes ClosUpTwo f t w = None
labels_for K codes ClosDown f t w = None
labels_for K codes Sym f t w = None
labels_for K codes SwapName f t w = None
labels_for K codes SwapTerm f t w = None
labels_for K codes LabelUnsat f t w = compared (label_at K codes f.a) (label_at K codes f.b)
labels_for K codes LabelSame f t w = compared (label_at K codes t) (label_at K codes w)

-- the facts f and g with the rows and labels that a line asks for; o tells whether p and q are one number
abbrev pub cited_with :
    (ℕ → maybe.Option ℕ) → List ℕ → List TermRow → Rule → Bool → Fact → Fact → ℕ → ℕ → Cited
cited_with K codes rows r o f g x y =
    record {
      one = o;
      p = f;
      q = g;
      t = x;
      w = y;
      of_p = row_at rows f.term;
      of_t = row_at rows x;
      left = (row_at rows (row_at rows f.term).a).arity;
      labels = labels_for K codes r f x y;
    }

-- what the step x cites, where its fields p and q number the facts f and g
abbrev pub cited_by : (ℕ → maybe.Option ℕ) → List ℕ → List TermRow → Rule → Step → Fact → Fact → Cited
cited_by K codes rows r x f g = cited_with K codes rows r (x.p == x.q) f g x.t x.w

-- ── plans ──────────────────────────────────────────────────────────────────

-- with both facts found: the unmentioned fields are zero and the line is met, or it is not
abbrev pub plan_met :
    (ℕ → maybe.Option ℕ) → List ℕ → List TermRow → Rule → Step → Fact → Fact → Result Plan Refusal
plan_met K codes rows r x f g =
    cond (zeros_kept r x && line_met r (cited_by K codes rows r x f g))
    (Ok (record { rule = r; cited = cited_by K codes rows r x f g }))
    (Err NotMet)

-- with p found: q is looked up
abbrev pub plan_q :
    (ℕ → maybe.Option ℕ) → List ℕ → List TermRow → Rule → Step → Fact → Option Fact → Result Plan Refusal
plan_q K codes rows r x f None = Err (NotOnBranch x.q)
plan_q K codes rows r x f (Some g) = plan_met K codes rows r x f g

-- with the rule known: p is looked up
abbrev pub plan_p :
    (ℕ → maybe.Option ℕ) → List ℕ → List TermRow → List Fact → Rule → Step → Option Fact → Result Plan Refusal
plan_p K codes rows facts r x None = Err (NotOnBranch x.p)
plan_p K codes rows facts r x (Some f) = plan_q K codes rows r x f (looked (uses r).q facts x.q)

-- the rule is looked up first
abbrev pub plan_rule :
    (ℕ → maybe.Option ℕ) → List ℕ → List TermRow → List Fact → Step → Option Rule → Result Plan Refusal
plan_rule K codes rows facts x None = Err (NoRule x.rule)
plan_rule K codes rows facts x (Some r) = plan_p K codes rows facts r x (looked (uses r).p facts x.p)

-- the plan of a step: its rule with what it cites, or why not
abbrev pub planned :
    (ℕ → maybe.Option ℕ) → List ℕ → List TermRow → List Fact → Step → Result Plan Refusal
planned K codes rows facts x = plan_rule K codes rows facts x (rule_of x.rule)
