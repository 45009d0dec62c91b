-- A walk along a formal list: what is asked of the whole list is asked of the formals that are left.
-- Assumes nothing.
use Prim.Native.Nat.{ℕ, ◌-◌, ◌<◌, ◌≤◌}
use mathlib.Core.Bool.{Bool, true, false, cond}
use mathlib.Core.List.{List, [], ◌∷◌}
use mathlib.Core.Path.{◌≡◌, refl, sym, ap, ◌∙◌}
use native.Mathlib.Omega.{arith}
use lib.ListN.{length}
use Rattle.std.specs.Prelude.{Some, None, Result, Ok, Err}
use Rattle.std.specs.Result.{result_ok}
use Rattle.text.specs.Bytes.{same}
use Rattle.brackets.specs.Stacks.{Full, Settled}
use Rattle.brackets.proofs.Settling.{full_lent, settled_full, settled_over}
use Rattle.definition.specs.Lists.{formal_at, Formals, ill, whole, formals_at, behind}
use Rattle.definition.specs.Definitions.{formal_name, named, bad_among, bad_formals}
use Rattle.definition.specs.declared.Formal.{Formal}
use Rattle.definition.specs.declared.ReadError.{ReadError}
use Rattle.definition.specs.declared.ReadError.TheVariants.{IllFormed, NoRoom}
use Rattle.definition.proofs.Formals.{formal_inside, formal_full, formals_ill, formals_out, Rest, formals_rest, behind_last, behind_more}

ill_whole : {A : Type 0} (g : Formals) {fs : List Formal} {e : ℕ} → g ≡ ill → g ≡ whole fs e → A
ill_whole g p q = absurd (let z : ◌≡◌ {A = ℕ} 0 1 = cc in omega arith)

-- the formals behind a last one and behind another
module _ (s : List ℕ) (f : Formal) {fs : List Formal} {e : ℕ} (p : behind s f ≡ whole fs e) where
  pub none_behind : f.last ≡ true → fs ≡ []
  none_behind l = let z : whole fs e ≡ whole [] f.next = sym p ∙ behind_last s f l in cc

  pub some_behind : f.last ≡ false → formals_at s f.next ≡ whole fs e
  some_behind l = sym (behind_more s f l) ∙ p

-- of the whole list fs: the formals from i on, of which v says what it says of all
pub record Left (s : List ℕ) (v : List Formal → Bool) (i : ℕ) (fs : List Formal) (e : ℕ) : Type 0 where
  pub rest : List Formal
  pub here : formals_at s i ≡ whole rest e
  pub alike : v fs ≡ v rest

-- a walk from `at` on is at i, with a buffer o' that is as long as it was; K: what is known of the text at an index
pub record Scanning (K : ℕ → Type 0) (s o o' : List ℕ) (v : List Formal → Bool) (at i : ℕ) : Type 0 where
  pub same_length : length o' ≡ length o
  pub known : K at → K i
  pub left : K at → (fs : List Formal) (e : ℕ) → formals_at s at ≡ whole fs e → Left s v i fs e

pub scan_first : {K : ℕ → Type 0} {s o : List ℕ} {v : List Formal → Bool} {at : ℕ} → Scanning K s o o v at at
scan_first = record { same_length = refl; known = λ u. u; left = λ u fs e p. record { rest = fs; here = p; alike = refl } }

module _ {K : ℕ → Type 0} {s o o' : List ℕ} {v : List Formal → Bool} {at i : ℕ} (a : Scanning K s o o' v at i) where
  -- a whole list has a formal at i
  pub scan_out : {A : Type 0} → length s ≤ i → K at → {fs : List Formal} {e : ℕ} → formals_at s at ≡ whole fs e → A
  scan_out l u {fs} {e} p = ill_whole (formals_at s i) (formals_out s i l) (a.left u fs e p).here

  module _ {r : Result Formal ReadError} (h : Settled o' (length s) (Err NoRoom) (formal_at s i) r) where
    -- none is read there only where there is no room for its brackets
    pub scan_short : None ≡ result_ok r → K at → {fs : List Formal} {e : ℕ} → formals_at s at ≡ whole fs e → Full o (length s)
    scan_short q u {fs} {e} p = full_lent o' o (length s) a.same_length (go r h q)
      where
        go : (r : Result Formal ReadError) → Settled o' (length s) (Err NoRoom) (formal_at s i) r → None ≡ result_ok r → Full o' (length s)
        go (Ok f) h q = absurd (cc)
        go (Err IllFormed) h q = ill_whole (formals_at s i) (formals_ill s i (sym (settled_full h (λ z. cc)))) (a.left u fs e p).here
        go (Err NoRoom) h q = settled_over h refl (formal_full s i)

    module _ {f : Formal} (q : Some f ≡ result_ok r) where
      pub formal_read : formal_at s i ≡ Ok f
      formal_read = go r h q
        where
          go : (r : Result Formal ReadError) → Settled o' (length s) (Err NoRoom) (formal_at s i) r → Some f ≡ result_ok r → formal_at s i ≡ Ok f
          go (Ok g) h q = let z : f ≡ g = cc in sym (settled_full h (λ z. cc)) ∙ ap (λ (g : Formal). Ok g) (sym z)
          go (Err e) h q = absurd (cc)

      pub scan_less : i < length s → length s - f.next < length s - i
      scan_less l = omega (arith, (formal_inside s i f formal_read).0)

      module _ (u : K at) {fs : List Formal} {e : ℕ} (p : formals_at s at ≡ whole fs e) where
        scan_rest : Rest s f (a.left u fs e p).rest e
        scan_rest = formals_rest s i f (a.left u fs e p).rest e formal_read (a.left u fs e p).here

        -- what v says of all, where it is known of the formals from i on
        pub scan_said : (b : Bool) → (K i → formal_at s i ≡ Ok f → (gs : List Formal) → behind s f ≡ whole gs e → v (f ∷ gs) ≡ b) → v fs ≡ b
        scan_said b g = let k = scan_rest in (a.left u fs e p).alike ∙ (ap v k.first ∙ g (a.known u) formal_read k.rest k.others)

        -- a buffer with no room for those behind
        pub scan_over : (o'' : List ℕ) → length o'' ≡ length o' → (K i → formal_at s i ≡ Ok f → (gs : List Formal) → behind s f ≡ whole gs e → Full o'' (length s)) → Full o (length s)
        scan_over o'' z g = let k = scan_rest in full_lent o'' o (length s) (z ∙ a.same_length) (g (a.known u) formal_read k.rest k.others)

      module _ (g : K i → formal_at s i ≡ Ok f → (gs : List Formal) (e : ℕ) → behind s f ≡ whole gs e → v (f ∷ gs) ≡ v gs) where
        pub scan_next : (K i → formal_at s i ≡ Ok f → K f.next) → {o'' : List ℕ} → f.last ≡ false → length o'' ≡ length o' → Scanning K s o o'' v at f.next
        scan_next n l z =
            record {
              same_length = z ∙ a.same_length;
              known = λ u. n (a.known u) formal_read;
              left = λ u fs e p. let k = scan_rest u p in
                  record {
                    rest = k.rest;
                    here = some_behind s f k.others l;
                    alike = (a.left u fs e p).alike ∙ (ap v k.first ∙ g (a.known u) formal_read k.rest e k.others);
                  };
            }

        pub scan_last : f.last ≡ true → v [] ≡ false → K at → {fs : List Formal} {e : ℕ} → formals_at s at ≡ whole fs e → v fs ≡ false
        scan_last l z u {fs} {e} p = scan_said u p false (λ w q gs y. g w q gs e y ∙ (ap v (none_behind s f y l) ∙ z))

-- a formal of that name
module _ (s w : List ℕ) where
  pub named_none : {fs : List Formal} → fs ≡ [] → named s w fs ≡ false
  unfolding named
  named_none e = rw e

  module _ (f : Formal) {x y : List ℕ} (p : x ≡ w) (q : y ≡ formal_name s f) (b : Bool) (e : b ≡ same x y) (fs : List Formal) where
    as_read : same w (formal_name s f) ≡ b
    as_read = ap (λ (k : List ℕ). same k (formal_name s f)) (sym p) ∙ (ap (same x) (sym q) ∙ sym e)

    pub named_here : b ≡ true → named s w (f ∷ fs) ≡ true
    unfolding named
    named_here z = ap (λ (k : Bool). cond k true (named s w fs)) (as_read ∙ z)

    pub named_past : b ≡ false → named s w (f ∷ fs) ≡ named s w fs
    unfolding named
    named_past z = ap (λ (k : Bool). cond k true (named s w fs)) (as_read ∙ z)

-- a bad formal
module _ (s : List ℕ) where
  pub bad_none : {fs : List Formal} → fs ≡ [] → bad_formals s fs ≡ false
  unfolding bad_formals
  bad_none e = rw e

  module _ (f : Formal) (fs : List Formal) where
    pub bad_here : bad_among s f fs ≡ true → bad_formals s (f ∷ fs) ≡ true
    unfolding bad_formals
    bad_here z = ap (λ (k : Bool). cond k true (bad_formals s fs)) z

    pub bad_past : bad_among s f fs ≡ false → bad_formals s (f ∷ fs) ≡ bad_formals s fs
    unfolding bad_formals
    bad_past z = ap (λ (k : Bool). cond k true (bad_formals s fs)) z
