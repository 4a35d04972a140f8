-- The worklist of a closure: `Work` holds where the first j elements have offered all, and at the end the list
-- has exactly what is reached (`work_end`).
use Rattle.std.proofs.Common.{◌≡◌, ℕ, ◌+◌, ◌<◌, ◌≤◌, Bool, true, false, List, [], ◌∷◌, ◌++◌, length, get_or, take, Some, None, Decides, Option, sym, refl, ap, ◌∙◌, subst, inl, inr, ⊎_elim, arith}
use Rattle.std.specs.List.{flat_map}
use Rattle.std.proofs.lemmas.List.{take_more, take_all, take-append-le, append_assoc, append-nil}
use Rattle.std.proofs.lemmas.Bool.{cases_Bool}
use Rattle.values.specs.Sets.{has, put, puts, In, Apart}
use Rattle.values.specs.Gathers.{listed, Denotes, Crowd, Reach}
use Rattle.values.specs.Gathers.Reach.{one, more}
use Rattle.values.proofs.Theory.{in_left, in_right, in_cases, in_push, in_get_d, apart_puts, puts_old, puts_new, puts_from, not_longer}

-- a list of R and more elements with R than it has do not go together
pub not_crowded : {X : Type 0} {R : X → Type 0} {v : List X} {k : ℕ} → Denotes R v → length v ≤ k → Crowd R k → ⊥
not_crowded {v = v} d h c =
    let l = not_longer c.some v c.apart (λ x i. d.complete x (c.sound x i)) in
    omega (arith, c.many)

module _ {X : Type 0} (e : X → X → Bool) where
  -- what is put comes behind
  put_extends : (v : List X) (t : X) → (u : List X) × (put e v t ≡ v ++ u)
  put_extends v t =
      ⊎_elim (λ (p : has e v t ≡ true). ([], rw p (sym (append-nil v)))) (λ (p : has e v t ≡ false). (t ∷ [], rw p)) (cases_Bool (has e v t))

  pub puts_extends : (v ts : List X) → (u : List X) × (puts e v ts ≡ v ++ u)
  puts_extends v [] = ([], sym (append-nil v))
  puts_extends v (t ∷ ts) =
      let p = put_extends v t in
      let r = puts_extends (put e v t) ts in
      (p.0 ++ r.0, r.1 ∙ ap (λ z. z ++ r.0) p.1 ∙ append_assoc v p.0 r.0)

  pub take_puts : (v ts : List X) (j : ℕ) → j ≤ length v → take j (puts e v ts) ≡ take j v
  take_puts v ts j h = let r = puts_extends v ts in ap (take j) r.1 ∙ take-append-le j v r.0 h

-- what an element offers, over the elements of s
module _ {X : Type 0} (step : X → X → Option X) where
  abbrev pub offers : List X → X → List X
  offers s x = flat_map (λ y. listed (step x y)) s

  pub in_listed : (o : Option X) (t : X) → In (listed o) t → o ≡ Some t
  in_listed None t m = absurd m
  in_listed (Some x) t m = ⊎_elim (λ p. ap Some p) (λ q. absurd q) m

  pub offers_from : (s : List X) (x t : X) → In (offers s x) t → (y : X) × In s y × (step x y ≡ Some t)
  offers_from [] x t m = absurd m
  offers_from (y ∷ ys) x t m =
      ⊎_elim
      (λ p. (y, inl refl, in_listed (step x y) t p))
      (λ p. let r = offers_from ys x t p in (r.0, inr r.1, r.2))
      (in_cases (listed (step x y)) (offers ys x) t m)

  pub offers_to : (s : List X) (x y t : X) → In s y → step x y ≡ Some t → In (offers s x) t
  offers_to [] x y t m p = absurd m
  offers_to (z ∷ zs) x y t m p =
      ⊎_elim
      (λ q. in_left (listed (step x z)) (offers zs x) t (subst (λ w. In (listed (step x w)) t) (sym q) (rw p (inl refl))))
      (λ q. in_right (listed (step x z)) (offers zs x) t (offers_to zs x y t q p))
      m

-- the state of a closure: v holds s and only what s reaches, and what the first j elements offer
pub record Work {X : Type 0} (step : X → X → Option X) (s v : List X) (j : ℕ) : Type 0 where
  pub apart : Apart v
  pub sound : (t : X) → In v t → Reach step (In s) t
  pub base : (t : X) → In s t → In v t
  pub done : (x : X) → In (take j v) x → (t : X) → In (offers step s x) t → In v t

module _ {X : Type 0} (e : X → X → Bool) (law : (x y : X) → Decides (e x y) (x ≡ y)) (step : X → X → Option X) (s : List X) where
  pub work_start : Work step s (puts e [] s) 0
  work_start =
      record {
        apart = apart_puts e law [] s tt;
        sound = λ t m. one (⊎_elim (λ n. absurd n) (λ n. n) (puts_from e law [] s t m));
        base = λ t m. puts_new e law [] s t m;
        done = λ x m t n. absurd m;
      }

  -- what was put since the element x of v came up is reached
  pub work_sound : (v : List X) (j : ℕ) (x : X) → Work step s v j → In v x → (t : X) → In (puts e v (offers step s x)) t → Reach step (In s) t
  work_sound v j x w i t m =
      ⊎_elim
      (λ p. w.sound t p)
      (λ p. let r = offers_from step s x t p in more r.0 (w.sound x i) r.1 r.2)
      (puts_from e law v (offers step s x) t m)

  pub work_more : (v : List X) (j : ℕ) (d : X) → j < length v → Work step s v j → Work step s (puts e v (offers step s (get_or v j d))) (j + 1)
  work_more v j d h w =
      let x : X = get_or v j d in
      let p = take_puts e v (offers step s x) (j + 1) (omega arith) ∙ take_more v j d h in
      record {
        apart = apart_puts e law v (offers step s x) w.apart;
        sound = work_sound v j x w (in_get_d v j d h);
        base = λ t m. puts_old e law v (offers step s x) t (w.base t m);
        done = λ z m t n. ⊎_elim
            (λ q. puts_old e law v (offers step s x) t (w.done z q t n))
            (λ q. puts_new e law v (offers step s x) t (subst (λ y. In (offers step s y) t) (sym q) n))
            (in_push (take j v) x z (subst (λ l. In l z) p m));
      }

  pub work_end : (v : List X) (j : ℕ) → length v ≤ j → Work step s v j → Denotes (Reach step (In s)) v
  work_end v j h w = record { apart = w.apart; sound = w.sound; complete = all }
    where
      all : (t : X) → Reach step (In s) t → In v t
      all t (one m) = w.base t m
      all t (more {x} y r m p) = w.done x (subst (λ l. In l x) (sym (take_all j v h)) (all x r)) t (offers_to step s x y t m p)

  -- too many reached for k places
  pub work_crowd : (v : List X) (j k : ℕ) → Work step s v j → k < length v → Crowd (Reach step (In s)) k
  work_crowd v j k w h = record { some = v; apart = w.apart; sound = w.sound; many = h }
