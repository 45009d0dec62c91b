-- Values in the places of names leave lists as they are; what holds of every argument and default holds of every value.
-- Assumes nothing.
use mathlib.Core.Path.{◌≡◌, refl, sym, ap, ◌∙◌, subst}
use mathlib.Core.Bool.{Bool, true, false, cond}
use mathlib.Core.Option.{Option, none, some}
use mathlib.Core.List.{List, [], ◌∷◌, ◌++◌}
use Prim.Native.Nat.{ℕ}
use native.Mathlib.Omega.{arith}
use Rattle.text.specs.Bytes.{same}
use Rattle.lex.specs.declared.Token.{Token}
use Rattle.definition.specs.Definitions.{Parameter, parameter}
use Rattle.pending.specs.Pending.{Pending, text_token, text_tokens, View, names, is_call, view}
use Rattle.pending.proofs.Viewing.{by_name}
use Rattle.arguments.specs.Arguments.{keep, move_of}
use Rattle.replace.specs.Replacing.{fallback, or_else, value, instead, image_of, in_place}
use Rattle.passing.proofs.Lists.{views, keep_close, keep_part, keep_same, Counted, last, kept, parted, Shut, Listed, skip, opened, counted_shut}

-- ---- views of joined lists, and of the tokens of a text

pub views_join : (a b c : List Pending) → views ((a ++ b) ++ c) ≡ views a ++ views (b ++ c)
views_join [] b c = refl
views_join (p ∷ a) b c = ap (λ (z : List View). view p ∷ z) (views_join a b c)

pub view_text : (s set : List ℕ) (t : Token) → view (text_token s set t) ≡ view (text_token s [] t)
unfolding view
view_text s set t = refl

-- a token is in a list what it is, whatever its set
pub views_text : (s set : List ℕ) (ts : List Token) → views (text_tokens s set ts) ≡ views (text_tokens s [] ts)
unfolding text_tokens
views_text s set [] = refl
views_text s set (t ∷ ts) =
    ap (λ (v : View). v ∷ views (text_tokens s set ts)) (view_text s set t) ∙ ap (λ (z : List View). view (text_token s [] t) ∷ z) (views_text s set ts)

-- ---- a token of a text stands for itself, or for a value

pub data Image (f : List ℕ → Option (List Pending)) (p : Pending) : List Pending → Type 0 where
  itself : Image f p (p ∷ [])
  valued : (w : List ℕ) {a : List Pending} → f w ≡ some a → ((due : List ℕ) → move_of (view p) due ≡ keep due) → is_call (view p) ≡ false → Image f p a

pub image-of : (f : List ℕ → Option (List Pending)) (p : Pending) → Image f p (image_of (view p) p f)
image-of f p = by_name (Image f p) (view p) itself (λ w e. go w e (f w) refl)
  where
    go : (w : List ℕ) → view p ≡ names w → (o : Option (List Pending)) → f w ≡ o → Image f p (instead o p)
    go w e none h = itself
    go w e (some a) h = valued w h (λ due. ap (λ (v : View). move_of v due) e) (ap is_call e)

-- values in place of names leave the number of arguments
module _ (f : List ℕ → Option (List Pending)) (ok : (w : List ℕ) (a : List Pending) → f w ≡ some a → Shut (views a) []) (rest : List Pending) where
  counted_image : (p : Pending) (ps : List Pending) {due : List ℕ} {n : ℕ} (q : List Pending) → Image f p q
      → ((d : List ℕ) (m : ℕ) → Counted (views ps) d m → Counted (views (in_place f ps ++ rest)) d m)
      → Counted (view p ∷ views ps) due n → Counted (views q ++ views (in_place f ps ++ rest)) due n
  counted_image p ps q itself ih (last h) = last h
  counted_image p ps q itself ih (kept {n = n} d h c) = kept d h (ih d n c)
  counted_image p ps q itself ih (parted {n = n} h c) = parted h (ih [] n c)
  counted_image p ps {due} q (valued w e k u) ih (last h) = keep_close (move_of (view p) due) due (k due) h
  counted_image p ps {due} q (valued w e k u) ih (kept {n = n} d h c) =
      counted_shut (ok w q e) (ih due n (subst (λ (z : List ℕ). Counted (views ps) z n) (keep_same (move_of (view p) due) d due h (k due)) c))
  counted_image p ps {due} q (valued w e k u) ih (parted h c) = keep_part (move_of (view p) due) due (k due) h

  pub counted_placed : (ps : List Pending) {due : List ℕ} {n : ℕ} → Counted (views ps) due n → Counted (views (in_place f ps ++ rest)) due n
  unfolding in_place
  counted_placed [] c = elim c [ ]
  counted_placed (p ∷ ps) {due} {n} c =
      subst (λ (z : List View). Counted z due n) (sym (views_join (image_of (view p) p f) (in_place f ps) rest))
      (counted_image p ps (image_of (view p) p f) (image-of f p) (λ d m g. counted_placed ps g) c)

  pub listed_placed : (ps : List Pending) {n : ℕ} → Listed (views ps) n → Listed (views (in_place f ps ++ rest)) n
  unfolding in_place
  listed_placed [] h = elim h [ ]
  listed_placed (p ∷ ps) {n} (skip e l) =
      subst (λ (v : View). Listed (views ((image_of v p f ++ in_place f ps) ++ rest)) n) (sym e) (skip e (listed_placed ps l))
  listed_placed (p ∷ ps) {n} (opened e c) =
      subst (λ (v : View). Listed (views ((image_of v p f ++ in_place f ps) ++ rest)) n) (sym e) (opened e (counted_placed ps c))

-- ---- what holds of every argument and every default, holds of every value

pub data All {A : Type 0} (P : A → Type 0) : List A → Type 0 where
  all_nil : All P []
  all_cons : {a : A} {l : List A} → P a → All P l → All P (a ∷ l)

pub data Defaults (P : List Pending → Type 0) (set : List ℕ) : List Parameter → Type 0 where
  default_nil : Defaults P set []
  default_cons : {f : List ℕ} {d : Option (List ℕ)} {fs : List Parameter} → P (fallback set d) → Defaults P set fs → Defaults P set (parameter f d ∷ fs)

module _ (P : List Pending → Type 0) (set : List ℕ) where
  chosen : (b : Bool) (x : List Pending) (o : Option (List Pending)) (a : List Pending) → P x → (o ≡ some a → P a) → cond b (some x) o ≡ some a → P a
  chosen true x o a p k e = let q : x ≡ a = cc in subst P q p
  chosen false x o a p k e = k e

  or-else : (d : Option (List ℕ)) (a : List Pending) → P (fallback set d) → P a → P (or_else set d a)
  or-else d [] p q = p
  or-else d (x ∷ xs) p q = q

  pub value_holds : {fs : List Parameter} {xs : List (List Pending)} → Defaults P set fs → All P xs → (w : List ℕ) (a : List Pending) → value set fs xs w ≡ some a → P a
  unfolding value
  value_holds default_nil es w a e = absurd (let z : ◌≡◌ {A = ℕ} 0 1 = cc in omega arith)
  value_holds (default_cons {f = f} {d = d} {fs = fs} p ds) all_nil w a e =
      chosen (same w f) (fallback set d) (value set fs [] w) a p (value_holds ds all_nil w a) e
  value_holds (default_cons {f = f} {d = d} {fs = fs} p ds) (all_cons {a = x} {l = xs} q es) w a e =
      chosen (same w f) (or_else set d x) (value set fs xs w) a (or-else d x p q) (value_holds ds es w a) e
