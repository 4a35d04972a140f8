-- Pieces put on a page one after another, and lines after lines.
use Rattle.std.proofs.Common.{◌≡◌, ℕ, ◌+◌, ◌<◌, ◌≤◌, List, [], ◌++◌, length, get_or, take, drop, subst, sym, refl, ap, ◌∙◌, append_assoc, append-nil, add-zero, arith, length-append}
use mathlib.Core.Option.{some}
use Rattle.std.specs.List.{flat_map}
use Rattle.std.proofs.lemmas.List.{drop-drop, take_more, flat_map_more}
use Rattle.std.proofs.lemmas.List.Concat.{flat_map-append}
use Rattle.meaning.specs.Text.{Line, text, line}
use Rattle.meaning.specs.Reading.{read_lines}
use Rattle.meaning.proofs.ReadBack.{reads_back}
use Rattle.listing.specs.Buffer.{Filled, Wrote, Listed}
use Rattle.listing.specs.declared.page.Page.{Page}

filled_none : (xs : List ℕ) (at : ℕ) → Filled xs at [] xs at
filled_none xs at = record { place = sym (add-zero at); front = sym (append-nil (take at xs)); rest = refl }

filled_more : {xs ys zs : List ℕ} {at p r : ℕ} {bs cs : List ℕ} → Filled xs at bs ys p → Filled ys p cs zs r → Filled xs at (bs ++ cs) zs r
filled_more {xs = xs} {ys = ys} {at = at} {p = p} {r = r} {bs = bs} {cs = cs} v w =
    record {
      place = let l = length-append bs cs in let a = v.place in let b = w.place in omega arith;
      front = w.front ∙ ap (λ l. l ++ cs) v.front ∙ append_assoc (take at xs) bs cs;
      rest = w.rest ∙ rw w.place (sym (drop-drop (length cs) p ys) ∙ ap (drop (length cs)) v.rest ∙ drop-drop (length cs) p xs);
    }

-- one piece after another
pub wrote_more : {x y z : Page} {bs cs : List ℕ} → Wrote x bs y → Wrote y cs z → Wrote x (bs ++ cs) z
wrote_more {bs = bs} {cs = cs} v w =
    let l = length-append bs cs in
    let r = v.room in
    record {
      counted = λ h. let a = v.counted (omega arith) in let b = w.counted (omega arith) in omega arith;
      filled = λ h. let f = v.filled (omega arith) in let a = f.place in filled_more f (w.filled (omega arith));
      room = w.room ∙ v.room;
      same = w.same ∙ v.same;
    }

pub wrote_as : {x y : Page} {bs : List ℕ} (cs : List ℕ) → bs ≡ cs → Wrote x bs y → Wrote x cs y
wrote_as {x = x} {y = y} cs e w = subst (λ l. Wrote x l y) e w

-- the pieces of one element more
pub pieces_next : {X A : Type 0} (f : X → List A) (xs : List X) (i : ℕ) (d : X) → i < length xs → flat_map f (take i xs) ++ f (get_or xs i d) ≡ flat_map f (take (i + 1) xs)
pieces_next f xs i d h = flat_map_more f [] (take i xs) (get_or xs i d) ∙ sym (ap (flat_map f) (take_more xs i d h))

-- no lines
pub listed_none : (x : Page) (m : ℕ) → Listed x [] x m
listed_none x m = record { wrote = record { counted = λ h. sym (add-zero x.at); filled = λ h. filled_none x.out.now x.at; room = refl; same = refl }; most = omega arith }

-- lines after lines
pub listed_more : {x y z : Page} (ls ms : List Line) (m k : ℕ) → Listed x ls y m → Listed y ms z k → Listed x (ls ++ ms) z (m + k)
listed_more ls ms m k v w =
    let e = flat_map-append line ls ms in
    record { wrote = wrote_as (text (ls ++ ms)) (sym e) (wrote_more v.wrote w.wrote); most = omega (arith, ap length e, length-append (text ls) (text ms), v.most, w.most) }

pub listed_as : {x y : Page} {ls : List Line} {m : ℕ} (ms : List Line) (k : ℕ) → ls ≡ ms → m ≤ k → Listed x ls y m → Listed x ms y k
listed_as ms k e h l = record { wrote = wrote_as (text ms) (ap text e) l.wrote; most = omega (arith, ap (λ x. length (text x)) e, l.most) }

-- the lines of one element more
pub listed_next : {X : Type 0} {x y z : Page} (f : X → List Line) (xs : List X) (i : ℕ) (d : X) (m k n : ℕ) → m + k ≤ n → i < length xs → Listed x (flat_map f (take i xs)) y m → Listed y (f (get_or xs i d)) z k → Listed x (flat_map f (take (i + 1) xs)) z n
listed_next f xs i d m k n t h v w = listed_as _ n (pieces_next f xs i d h) t (listed_more _ _ m k v w)

-- lines at the front are read back
pub heard : (xs ys : List ℕ) (n : ℕ) (ls : List Line) → Filled xs 0 (text ls) ys n → read_lines (take n ys) ≡ some ls
heard xs ys n ls f = ap read_lines f.front ∙ reads_back ls
