-- What replacing asks of a token, by whether it is barred and by its bytes as they stand.
-- Assumes nothing.
use Prim.Native.Nat.{ℕ}
use mathlib.Core.Bool.{Bool, true, false, cond, ◌||◌}
use mathlib.Core.List.{List}
use mathlib.Core.Path.{◌≡◌, refl, ap}
use lib.Dec.{eqb}
use lib.ListN.{get_or}
use Rattle.lex.specs.Tokens.{Name, Escaped, Quote, Grave, Byte, String}
use Rattle.lex.proofs.Tests.{true_false}
use Rattle.pending.specs.declared.Pend.{Pend}
use Rattle.pending.specs.Pending.{Pending, View, blanks, calls, names, opens, closes, commas, bars, plain, on_usage, on_name, is_call, is_barred, is_blank, byte_view, grave_view, kind_view, view}
use Rattle.pending.specs.References.{raw_of, pending_by}

pub view_clear : (p : Pending) → p.bar ≡ 0 → view p ≡ kind_view p.kind (get_or p.bytes 0 0) p.name
unfolding view
view_clear p e = rw e

pub view_shut : (p : Pending) → eqb p.bar 0 ≡ false → view p ≡ bars p.bar p.at
unfolding view
view_shut p e = rw e

-- of a token that is no string the bytes are those that stand there
pub bytes_raw : (s b : List ℕ) (p : Pend) → eqb p.kind String ≡ false → (pending_by s b p).bytes ≡ raw_of s b p
unfolding pending_by
bytes_raw s b p e = rw e

pub first_raw : (s b : List ℕ) (p : Pend) → eqb p.kind String ≡ false → get_or (pending_by s b p).bytes 0 0 ≡ get_or (raw_of s b p) 0 0
first_raw s b p e = ap (λ (w : List ℕ). get_or w 0 0) (bytes_raw s b p e)

-- only of a token of one byte its first byte matters
pub kind_view_first : (k x y : ℕ) (w : List ℕ) → (eqb k Byte ≡ true → x ≡ y) → kind_view k x w ≡ kind_view k y w
unfolding kind_view
kind_view_first k x y w h =
    ap (λ (v : View). cond (is_blank k) blanks (cond (eqb k Name || eqb k Escaped) (names w) (cond (eqb k Quote) (bars 14 0) (cond (eqb k Grave) (grave_view w) v))))
    (go (eqb k Byte) refl)
  where
    go : (t : Bool) → eqb k Byte ≡ t → cond t (byte_view x) plain ≡ cond t (byte_view y) plain
    go true e = ap (λ (z : ℕ). byte_view z) (h e)
    go false e = refl

-- ---- a usage, or another token

-- what holds of two answers for a usage, and of two for any other token, holds of those that a token gets
pub by_usages : {A B : Type 0} (P : A → B → Type 0) (v : View) {a : A} {f : List ℕ → A} {b : B} {g : List ℕ → B} → (is_call v ≡ false → P a b)
    → ((w : List ℕ) → v ≡ calls w → P (f w) (g w)) → P (on_usage v a f) (on_usage v b g)
by_usages P blanks h k = h refl
by_usages P (calls w) h k = k w refl
by_usages P (names w) h k = h refl
by_usages P (opens c) h k = h refl
by_usages P (closes b) h k = h refl
by_usages P commas h k = h refl
by_usages P (bars n i) h k = h refl
by_usages P plain h k = h refl

pub by_usage : {A : Type 0} (P : A → Type 0) (v : View) {a : A} {f : List ℕ → A} → (is_call v ≡ false → P a)
    → ((w : List ℕ) → v ≡ calls w → P (f w)) → P (on_usage v a f)
by_usage {A} P v {a} {f} h k = by_usages (λ (x y : A). P x) v {a = a} {f = f} {b = a} {g = f} h k

pub not_usage : {A : Type 0} (v : View) (a : A) (f : List ℕ → A) → is_call v ≡ false → on_usage v a f ≡ a
not_usage {A} v a f e = by_usage (λ (x : A). x ≡ a) v (λ q. refl) (λ w q. true_false (is_call v) (ap is_call q) e)

-- ---- a name, or another token

pub by_name : {A : Type 0} (P : A → Type 0) (v : View) {a : A} {f : List ℕ → A} → P a → ((w : List ℕ) → v ≡ names w → P (f w)) → P (on_name v a f)
by_name P blanks h k = h
by_name P (calls w) h k = h
by_name P (names w) h k = k w refl
by_name P (opens c) h k = h
by_name P (closes b) h k = h
by_name P commas h k = h
by_name P (bars n i) h k = h
by_name P plain h k = h

-- ---- a token that is barred

-- what 2 to 6 bar is refused in a list
pub free_bar : (p : Pending) → is_barred (view p) ≡ false → eqb p.bar 0 ≡ true
unfolding view
free_bar p h = go (eqb p.bar 0) refl
  where
    go : (b : Bool) → eqb p.bar 0 ≡ b → b ≡ true
    go true e = refl
    go false e = true_false (is_barred (view p)) (rw e) h
