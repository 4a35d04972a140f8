-- The tests of a model as functions that compute: whether its representatives are lawful, how many tuples the
-- terms then have, which constraint is the first false one, and what a model is answered.
use Rattle.std.specs.Prelude.{ℕ, zero, suc, ◌+◌, Bool, true, false, cond, not, ◌&&◌, ◌||◌, ◌⊎◌, ◌↔◌, List, [], ◌∷◌, map, length, Ok, Err, Result, ◌==◌, nat_le}
use Rattle.std.proofs.Common.{inl, inr}
use Rattle.std.proofs.Math.Logic.Dec
use mathlib.Core.List.{Memᴰ as Mem}
use Rattle.std.proofs.Math.Option.{Option, none, some}
use Rattle.std.proofs.Math.Decide.{ℕ_discrete}
use Rattle.std.proofs.Math.ListN.{get_elem?}
use Rattle.records.specs.declared.refusal.Refusal.{Refusal}
use Rattle.records.specs.declared.refusal.Refusal.TheVariants.{Unlawful, TuplesOver, ConstraintFalse}
use Rattle.meaning.specs.Terms.{Row, term, Form, member, equal, same, Fact, Sheet}
use Rattle.meaning.specs.Meaning.{CodeMeaning, Interp, In, Holds, Sat}
use Rattle.meaning.specs.Finite.{mem_dec, all_or, tuple_dec, finite, in_dec}
use Rattle.meaning.specs.Calculus.{Branch}
use Rattle.meaning.specs.Model.{rep, Named}
use Rattle.meaning.specs.Mixes.{most_tuples}

-- Every number below n passes the test.
abbrev pub each_below : (ℕ → Bool) → ℕ → Bool
each_below f zero = true
each_below f (suc n) = each_below f n && f n

-- The failure that there was before n, or else n if its test fails.
abbrev pub or_bad : Option ℕ → Bool → ℕ → Option ℕ
or_bad (some e) b n = some e
or_bad none b n = cond b none (some n)

-- The first number below n that fails the test.
abbrev pub first_bad : (ℕ → Bool) → ℕ → Option ℕ
first_bad f zero = none
first_bad f (suc n) = or_bad (first_bad f n) (f n) n

-- The value of a code under K, if there is a code and it has a value.
abbrev pub value_of : CodeMeaning → Option ℕ → Option ℕ
value_of K none = none
value_of K (some c) = K c

-- The value of the label that name e bears, if it bears one that has a value.
abbrev pub label_value : CodeMeaning → Sheet → ℕ → Option ℕ
label_value K S e = value_of K (get_elem? S.codes e)

-- Both values are there and they are equal.
abbrev pub same_value : Option ℕ → Option ℕ → Bool
same_value none y = false
same_value (some x) none = false
same_value (some x) (some y) = x == y

-- Names d and e bear the same label.
abbrev pub same_label : CodeMeaning → Sheet → ℕ → ℕ → Bool
same_label K S d e = same_value (label_value K S d) (label_value K S e)

-- Name d does not represent itself, or it does not bear the label of e.
abbrev pub not_taken : CodeMeaning → Sheet → List ℕ → ℕ → ℕ → Bool
not_taken K S rs e d = not (rep rs d == d && same_label K S d e)

-- No name below k that represents itself bears the label of e.
abbrev pub none_lower : CodeMeaning → Sheet → List ℕ → ℕ → ℕ → Bool
none_lower K S rs e k = each_below (not_taken K S rs e) k

-- A labelled name: it has the label of its representative, and where it represents itself, no lower name that
-- does so has that label.
abbrev pub label_lawful : CodeMeaning → Sheet → List ℕ → ℕ → Bool
label_lawful K S rs e =
    same_label K S e (rep rs e) && (not (rep rs e == e) || none_lower K S rs e e)

-- The representative of name e is lawful: it is no higher than e, it represents itself, and e is a free name
-- or passes the test of a labelled name.
abbrev pub name_lawful : CodeMeaning → Sheet → List ℕ → ℕ → Bool
name_lawful K S rs e =
    nat_le (rep rs e) e
    && (rep rs (rep rs e) == rep rs e
    && (nat_le (length S.codes) e || label_lawful K S rs e))

-- What was decided, as a Boolean.
abbrev pub is_yes : {P : Type 0} → Dec P → Bool
is_yes (yes p) = true
is_yes (no n) = false

-- Whether two terms have the same tuples is decided, from the finite lists of their tuples.
unfoldable pub same_dec : {A : Type 0} (d : Discrete A) (I : Interp A) (rows : List Row) (s r : ℕ) →
    Dec ((u : List A) → In I (term rows s) u ↔ In I (term rows r) u)
same_dec {A} d I rows s r =
    go (all_or (in_dec d I (term rows r)) (finite d I (term rows s)).items)
    (all_or (in_dec d I (term rows s)) (finite d I (term rows r)).items)
  where
    go : ((u : List A) × Mem u (finite d I (term rows s)).items × ¬ (In I (term rows r) u))
        ⊎ ((u : List A) → Mem u (finite d I (term rows s)).items → In I (term rows r) u) →
        ((u : List A) × Mem u (finite d I (term rows r)).items × ¬ (In I (term rows s) u))
        ⊎ ((u : List A) → Mem u (finite d I (term rows r)).items → In I (term rows s) u) →
        Dec ((u : List A) → In I (term rows s) u ↔ In I (term rows r) u)
    go (inl p) q = no (λ h. p.2 ((h p.0).0 ((finite d I (term rows s)).only p.0 p.1)))
    go (inr f) (inl q) = no (λ h. q.2 ((h q.0).1 ((finite d I (term rows r)).only q.0 q.1)))
    go (inr f) (inr g) =
        yes
        (λ u. (λ p. f u ((finite d I (term rows s)).all u p), λ p. g u ((finite d I (term rows r)).all u p)))

-- Whether a form holds is decided.
unfoldable pub holds_dec : {A : Type 0} (d : Discrete A) (I : Interp A) (rows : List Row) (e : ℕ → A)
    (f : Form) → Dec (Holds rows I e f)
holds_dec d I rows e (member u t) = in_dec d I (term rows t) (map e u)
holds_dec d I rows e (equal a b) = d (e a) (e b)
holds_dec d I rows e (same s r) = same_dec d I rows s r

-- Whether it holds or not, as its sign says, is decided.
unfoldable pub sat_dec : {A : Type 0} (d : Discrete A) (I : Interp A) (rows : List Row) (e : ℕ → A)
    (g : Bool) (f : Form) → Dec (Sat rows I e g f)
sat_dec d I rows e true f = holds_dec d I rows e f
sat_dec d I rows e false f = Dec.not (holds_dec d I rows e f)

-- The constraint c is true under the interpretation I over numbers.
abbrev pub is_true : Sheet → Interp ℕ → Fact → Bool
is_true S I c = is_yes (sat_dec ℕ_discrete I S.rows I.name c.sign c.form)

-- The number of the first false one of these constraints, which are numbered from k on.
abbrev pub first_false : Sheet → Interp ℕ → List Fact → ℕ → Option ℕ
first_false S I [] k = none
first_false S I (c ∷ cs) k = cond (is_true S I c) (first_false S I cs (k + 1)) (some k)

-- A list with x before it, unless it has x already.
abbrev pub only_new : {X : Type 0} (x : X) (l : List X) → Dec (Mem x l) → List X
only_new x l (yes m) = l
only_new x l (no n) = x ∷ l

-- The members of a list, each once.
abbrev pub once : {X : Type 0} → Discrete X → List X → List X
once d [] = []
once d (x ∷ l) = only_new x (once d l) (mem_dec d x (once d l))

-- The tuples of the value of term t, each once.
abbrev pub tuples_of : Sheet → Interp ℕ → ℕ → List (List ℕ)
tuples_of S I t = once (tuple_dec ℕ_discrete) (finite ℕ_discrete I (term S.rows t)).items

-- How many different tuples the values of the terms below n have together, each term's counted apart.
abbrev pub tuples_below : Sheet → Interp ℕ → ℕ → ℕ
tuples_below S I zero = 0
tuples_below S I (suc n) = tuples_below S I n + length (tuples_of S I n)

-- How many those of all terms have.
abbrev pub tuples_in : Sheet → Interp ℕ → ℕ
tuples_in S I = tuples_below S I (length S.rows)

-- The answer, by the first false constraint if there is one.
abbrev pub on_constraints : Option ℕ → Result (Unit {0}) Refusal
on_constraints none = Ok tt
on_constraints (some k) = Err (ConstraintFalse k)

-- The answer, by the first unlawful name if there is one; else there are too many tuples, or the constraints
-- decide.
abbrev pub on_names : Sheet → Interp ℕ → Option ℕ → Result (Unit {0}) Refusal
on_names S I (some e) = Err (Unlawful e)
on_names S I none =
    cond (nat_le (tuples_in S I) most_tuples) (on_constraints (first_false S I S.constraints 0))
    (Err TuplesOver)

-- What a model with this count and these representatives is answered on a branch. The caller has seen that
-- there are as many representatives as the count says.
abbrev pub model_answer : CodeMeaning → Sheet → Branch → ℕ → List ℕ → Result (Unit {0}) Refusal
model_answer K S b count rs =
    cond (count == b.count)
    (on_names S (Named S rs b.facts) (first_bad (name_lawful K S rs) b.count))
    (Err (Unlawful 255))
