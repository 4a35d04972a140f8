-- Two worked streams as mixes, so that the law speaks of something: one is reached with CLOSED, `stream_closed`, one with OPEN, `stream_open`.
use Rattle.std.proofs.Common.{◌≡◌, ℕ, zero, suc, ◌<◌, ◌≤◌, cond, ltb, List, [], ◌∷◌, get_or, sym, refl, ◌∙◌, subst, ap₂, inl, inr, arith}
use mathlib.Core.List.Memᴰ
use mathlib.Core.List.{Memᴰ as Mem, head-eq_of_cons-eq, tail-eq_of_cons-eq}
use mathlib.Core.Option.{Option, none, some, some-injective}
use Rattle.meaning.specs.Terms.{variable, closure, Row, Fact, Sheet, term, trees, ◌∈◌, ◌∉◌}
use Rattle.meaning.specs.Meaning.{Chain, one, more, Value}
use Rattle.meaning.specs.Calculus.{State, running, closed, tclos_up_one, eq_unsat_both, cites_one, cites_two, start}
use Rattle.meaning.specs.Model.{rep, SameLabel, Lawful, Named}
use Rattle.meaning.specs.Text.{opened, name, inside}
use Rattle.meaning.specs.Mixes.{Draft, CLOSED, OPEN, Trial, sealed, moved, Stage, filling, trying, settled, Call, Mix, add, seal, step, settle, Exactly, Few, label_row, term_row, constraint_row, full_sheet, rule_step, model_step, verdict_there, granted, end, next, listing}
use Rattle.meaning.specs.Law.{Reaches}

-- the kind of numbers: a code below 1,000,000 is its own value
abbrev numbers : ℕ → Option ℕ
numbers c = cond (ltb c 1000000) (some c) none

-- two labels, 7 and 9, a variable P of pairs, and its closure
abbrev pair_rows : List Row
pair_rows = record { op = variable; arity = 2 } ∷ record { op = closure 0; arity = 2 } ∷ []

abbrev sheet_of : List Fact → Sheet
sheet_of cs = record { codes = 7 ∷ 9 ∷ []; free = 0; rows = pair_rows; constraints = cs }

-- the sheet while its rows come in, with c constraints due
abbrev draft : ℕ → List ℕ → List Row → List Fact → Draft
draft c ks rs cs = record { labels = 2; terms = 2; constraints = c; sheet = record { codes = ks; free = 0; rows = rs; constraints = cs } }

abbrev pair_codes : List ℕ
pair_codes = 7 ∷ 9 ∷ []

-- labels and terms come in
rows_in : (c : ℕ) {cs : List Call} {z : Stage} → Mix numbers (filling (draft c pair_codes pair_rows [])) cs z → Mix numbers (filling (draft c [] [] [])) (add (76 ∷ 66 ∷ 0 ∷ 0 ∷ 0 ∷ 7 ∷ []) ∷ add (76 ∷ 66 ∷ 0 ∷ 0 ∷ 0 ∷ 9 ∷ []) ∷ add (84 ∷ 77 ∷ 0 ∷ 2 ∷ 0 ∷ 0 ∷ 0 ∷ 0 ∷ []) ∷ add (84 ∷ 77 ∷ 9 ∷ 2 ∷ 0 ∷ 0 ∷ 0 ∷ 0 ∷ []) ∷ cs) z
rows_in c m =
    next (granted (label_row {D = draft c [] [] []} 0 0 0 7 (omega arith) refl))
    (next (granted (label_row {D = draft c (7 ∷ []) [] []} 0 0 0 9 (omega arith) refl))
    (next (granted (term_row {D = draft c pair_codes [] []} (record { op = variable; arity = 2 }) refl (omega arith) (omega arith) (omega arith) tt))
    (next (granted (term_row {D = draft c pair_codes (record { op = variable; arity = 2 } ∷ []) []} (record { op = closure 0; arity = 2 }) refl (omega arith) (omega arith) (omega arith) ((omega arith, record { op = variable; row = refl }), refl)))
    m)))

-- (0, 1) is in P and not in its closure
abbrev refuted : Sheet
refuted = sheet_of ((0 ∷ 1 ∷ []) ∈ 0 ∷ (0 ∷ 1 ∷ []) ∉ 1 ∷ [])

-- after TCLOS UP I, (0, 1) is in the closure too
abbrev once_more : State
once_more = running (record { facts = (0 ∷ 1 ∷ []) ∈ 0 ∷ (0 ∷ 1 ∷ []) ∉ 1 ∷ (0 ∷ 1 ∷ []) ∈ 1 ∷ []; count = 2 }) []

-- TCLOS UP I, then EQ UNSAT
pub stream_closed : Reaches numbers (record { sheet = refuted; state = closed; granted = 2; denied = 0; verdict = CLOSED })
stream_closed = record {
  letter = 78;
  bytes = 83 ∷ 72 ∷ 78 ∷ 2 ∷ 0 ∷ 2 ∷ 2 ∷ [];
  header = record { letter = 78; labels = 2; free = 0; terms = 2; constraints = 2 };
  made = record { bytes = refl; the_kinds = refl; names_fit = omega arith; terms_fit = omega arith; constraints_fit = omega arith };
  calls =
      add (76 ∷ 66 ∷ 0 ∷ 0 ∷ 0 ∷ 7 ∷ []) ∷ add (76 ∷ 66 ∷ 0 ∷ 0 ∷ 0 ∷ 9 ∷ []) ∷
      add (84 ∷ 77 ∷ 0 ∷ 2 ∷ 0 ∷ 0 ∷ 0 ∷ 0 ∷ []) ∷ add (84 ∷ 77 ∷ 9 ∷ 2 ∷ 0 ∷ 0 ∷ 0 ∷ 0 ∷ []) ∷
      add (67 ∷ 78 ∷ 1 ∷ 1 ∷ 0 ∷ 0 ∷ 1 ∷ 0 ∷ 0 ∷ []) ∷ add (67 ∷ 78 ∷ 1 ∷ 0 ∷ 1 ∷ 0 ∷ 1 ∷ 0 ∷ 0 ∷ []) ∷ seal ∷
      step (83 ∷ 84 ∷ 18 ∷ 0 ∷ 0 ∷ 0 ∷ 0 ∷ 1 ∷ 0 ∷ []) ∷ step (83 ∷ 84 ∷ 11 ∷ 0 ∷ 2 ∷ 0 ∷ 1 ∷ 0 ∷ 0 ∷ []) ∷ settle ∷ [];
  stage = settled (record { sheet = refuted; state = closed; granted = 2; denied = 0; verdict = CLOSED });
  mix =
      rows_in 2
      (next (granted (constraint_row {D = draft 2 pair_codes pair_rows []} ((0 ∷ 1 ∷ []) ∈ 0) refl refl (omega arith) (record { op = variable; row = refl }, (omega arith, (omega arith, tt)))))
      (next (granted (constraint_row {D = draft 2 pair_codes pair_rows ((0 ∷ 1 ∷ []) ∈ 0 ∷ [])} ((0 ∷ 1 ∷ []) ∉ 1) refl refl (omega arith) (record { op = closure 0; row = refl }, (omega arith, (omega arith, tt)))))
      (next (granted (full_sheet {D = draft 2 pair_codes pair_rows refuted.constraints} refl refl refl))
      (next (granted (rule_step {T = sealed refuted} 18 0 0 0 0 1 0 refl refl (omega arith)
      (record { cited = (0 ∷ 1 ∷ []) ∈ 0 ∷ []; rule = tclos_up_one (record { arity = 2; row = refl }); cites = cites_one (record { is = refl }) })
      (record { names_fit = (omega arith, tt); facts_fit = (omega arith, tt); forks_fit = λ _. omega arith })))
      (next (granted (rule_step {T = moved (sealed refuted) once_more} 11 0 2 0 1 0 0 refl refl (omega arith)
      (record { cited = (0 ∷ 1 ∷ []) ∈ 1 ∷ (0 ∷ 1 ∷ []) ∉ 1 ∷ []; rule = eq_unsat_both; cites = cites_two (record { is = refl }) (record { is = refl }) })
      (record { names_fit = tt; facts_fit = tt; forks_fit = λ _. omega arith })))
      (next (granted (verdict_there tt)) end))))));
  ends = inr refl;
}

-- (0, 1) is in P
abbrev modelled : Sheet
modelled = sheet_of ((0 ∷ 1 ∷ []) ∈ 0 ∷ [])

abbrev both : List ℕ
both = 0 ∷ 1 ∷ []

two_cases : (P : ℕ → Type 0) → P 0 → P 1 → (e : ℕ) → e < 2 → P e
two_cases P a b zero l = a
two_cases P a b (suc zero) l = b
two_cases P a b (suc (suc e)) l = absurd (omega arith)

-- what name 0 bears is 7, what name 1 bears is 9
differ : ¬ (SameLabel numbers modelled 0 1)
differ s =
    let c : 7 ≡ s.1.0 = some-injective _ _ s.1.1 in
    let d : 9 ≡ s.2.0 = some-injective _ _ s.2.1 in
    let x : 7 ≡ s.0 = some-injective _ _ (subst (λ (i : ℕ). numbers i ≡ some s.0) (sym c) s.1.2) in
    let y : 9 ≡ s.0 = some-injective _ _ (subst (λ (i : ℕ). numbers i ≡ some s.0) (sym d) s.2.2) in
    omega arith

lawful : Lawful numbers modelled 2 both
lawful = record {
  count = refl;
  low = two_cases (λ e. rep both e ≤ e) (omega arith) (omega arith);
  fixed = two_cases (λ e. rep both (rep both e) ≡ rep both e) refl refl;
  label = two_cases (λ e. SameLabel numbers modelled e (rep both e)) (7, (7, refl, refl), (7, refl, refl)) (9, (9, refl, refl), (9, refl, refl));
  lowest = λ d e l m p q.
      let zero_is : d ≡ 0 = omega arith in
      let one_is : e ≡ 1 = omega arith in
      subst (λ (i : ℕ). ¬ (SameLabel numbers modelled i e)) (sym zero_is) (subst (λ (i : ℕ). ¬ (SameLabel numbers modelled 0 i)) (sym one_is) differ);
}

-- the chains of the one pair
linked : {x y : ℕ} → Chain (λ p q. Mem (p ∷ (q ∷ [])) (both ∷ [])) x y → (x ≡ 0) × (y ≡ 1)
linked (one {x = x} {y = y} r) =
    let e : x ∷ (y ∷ []) ≡ 0 ∷ (1 ∷ []) = Memᴰ.eq_of_singleton r in
    (head-eq_of_cons-eq e, head-eq_of_cons-eq (tail-eq_of_cons-eq e))
linked (more {x = x} {y = y} r c) =
    let e : x ∷ (y ∷ []) ≡ 0 ∷ (1 ∷ []) = Memᴰ.eq_of_singleton r in
    let k = linked c in
    let a : y ≡ 1 = head-eq_of_cons-eq (tail-eq_of_cons-eq e) in
    let b : y ≡ 0 = k.0 in
    absurd (omega arith)

few : Few modelled both modelled.constraints 4096
unfolding term trees
few = record {
  lists = (both ∷ []) ∷ (both ∷ []) ∷ [];
  one_each = refl;
  exact = two_cases (λ t. Exactly (Value modelled.rows (Named modelled both modelled.constraints) t) (get_or ((both ∷ []) ∷ (both ∷ []) ∷ []) t []))
      (record { all = λ u m. m; only = λ u m. m; once = (Memᴰ.not-nil, tt) })
      (record {
        all = λ u p. let k = linked p.3 in Mem.head (p.2 ∙ ap₂ (λ (x y : ℕ). x ∷ (y ∷ [])) k.0 k.1);
        only = λ u m. (0, 1, Memᴰ.eq_of_singleton m, one (Mem.head refl));
        once = (Memᴰ.not-nil, tt);
      });
  few = omega arith;
}

abbrev opened_trial : Trial
opened_trial = record { sheet = modelled; state = start modelled; granted = 1; denied = 0; verdict = OPEN both }

-- each name represents itself
pub stream_open : Reaches numbers opened_trial
unfolding term trees
stream_open = record {
  letter = 78;
  bytes = 83 ∷ 72 ∷ 78 ∷ 2 ∷ 0 ∷ 2 ∷ 1 ∷ [];
  header = record { letter = 78; labels = 2; free = 0; terms = 2; constraints = 1 };
  made = record { bytes = refl; the_kinds = refl; names_fit = omega arith; terms_fit = omega arith; constraints_fit = omega arith };
  calls =
      add (76 ∷ 66 ∷ 0 ∷ 0 ∷ 0 ∷ 7 ∷ []) ∷ add (76 ∷ 66 ∷ 0 ∷ 0 ∷ 0 ∷ 9 ∷ []) ∷
      add (84 ∷ 77 ∷ 0 ∷ 2 ∷ 0 ∷ 0 ∷ 0 ∷ 0 ∷ []) ∷ add (84 ∷ 77 ∷ 9 ∷ 2 ∷ 0 ∷ 0 ∷ 0 ∷ 0 ∷ []) ∷
      add (67 ∷ 78 ∷ 1 ∷ 1 ∷ 0 ∷ 0 ∷ 1 ∷ 0 ∷ 0 ∷ []) ∷ seal ∷ step (77 ∷ 68 ∷ 2 ∷ 0 ∷ 1 ∷ []) ∷ [];
  stage = trying opened_trial;
  mix =
      rows_in 1
      (next (granted (constraint_row {D = draft 1 pair_codes pair_rows []} ((0 ∷ 1 ∷ []) ∈ 0) refl refl (omega arith) (record { op = variable; row = refl }, (omega arith, (omega arith, tt)))))
      (next (granted (full_sheet {D = draft 1 pair_codes pair_rows modelled.constraints} refl refl refl))
      (next (granted (model_step {T = sealed modelled} 2 both refl refl (omega arith) refl lawful few (Mem.head refl, tt))) end)));
  ends = inl refl;
}

-- and what it lists
pub stream_open_listing : listing opened_trial ≡ opened 1 ∷ name 0 0 ∷ name 1 1 ∷ inside 0 (0 ∷ 1 ∷ []) ∷ []
stream_open_listing = refl
