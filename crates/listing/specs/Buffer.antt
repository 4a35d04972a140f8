-- Bytes put on a page, which is a buffer and the place that comes next.
use Rattle.std.specs.Prelude.{◌≡◌, ℕ, ◌+◌, ◌^◌, ◌<◌, ◌≤◌, List, ◌++◌, length, take, drop}
use Rattle.meaning.specs.Text.{Line, text}
use Rattle.listing.specs.declared.page.Page.{Page}

-- The buffer ys is xs with the bytes bs written over it from place at on, and the next place is r.
pub record Filled (xs : List ℕ) (at : ℕ) (bs ys : List ℕ) (r : ℕ) : Type 0 where
  pub place : r ≡ at + length bs
  pub front : take r ys ≡ take at xs ++ bs
  pub rest : drop r ys ≡ drop r xs

-- The page y is x with the bytes bs put at its place: counted, and written where they fit.
pub record Wrote (x : Page) (bs : List ℕ) (y : Page) : Type 0 where
  pub counted : x.at + length bs < 2 ^ 64 → y.at ≡ x.at + length bs
  pub filled : x.at + length bs ≤ length x.out.now → Filled x.out.now x.at bs y.out.now y.at
  pub room : length y.out.now ≡ length x.out.now
  pub same : y.out.ghost_name ≡ x.out.ghost_name

-- The page y is x with the lines ls put at its place, and they have at most m bytes.
pub record Listed (x : Page) (ls : List Line) (y : Page) (m : ℕ) : Type 0 where
  pub wrote : Wrote x (text ls) y
  pub most : length (text ls) ≤ m
