-- The names of the macros ascend, and what `find`, `define` and `undefine` do to macros in this order. Assumes nothing.
use mathlib.Core.Path.{◌≡◌, refl, sym, ap, ◌∙◌, subst}
use mathlib.Core.Bool.{true, false}
use mathlib.Core.List.{List, [], ◌∷◌, ◌++◌}
use Prim.Native.Nat.{ℕ, zero, suc, ◌≤◌, ◌<◌, suc-le-suc}
use native.Mathlib.Nat.{not-suc-le-zero, le_of_suc-le-suc}
use native.Mathlib.Omega.{arith}
use lib.ListN.{length, take, drop}
use Rattle.text.specs.Order.{order_of}
use Rattle.std.specs.declared.cmp.Ordering.{Ordering}
use Rattle.std.specs.declared.cmp.Ordering.TheVariants.{Less, Equal, Greater}
use Rattle.std.specs.Ordering.{ordering_reverse, is_eq}
use Rattle.text.proofs.Comparing.{order_turned, order_equal, order_trans}
use Rattle.definition.specs.Definitions.{Macro}
use Rattle.std.proofs.Common.{Result, Ok, Err}
use Rattle.store.specs.Stores.{macro_name, macro_at, Below, Ascending, place_by, find_from, find, insert_at, replace_at, remove_at, define_by, define, undefine_by, undefine}

pub none_ascend : Ascending []
none_ascend = tt

-- w is the name of macro i, and stands after those of the macros before it
abbrev pub Stands : List ℕ → List Macro → ℕ → Type 0
Stands w [] i = ⊥
Stands w (m ∷ ms) zero = order_of w (macro_name m) ≡ Equal
Stands w (m ∷ ms) (suc i) = (order_of w (macro_name m) ≡ Greater) × Stands w ms i

-- w stands between the names of the macros before i and that of macro i
abbrev pub Belongs : List ℕ → List Macro → ℕ → Type 0
Belongs w [] zero = Unit {0}
Belongs w [] (suc i) = ⊥
Belongs w (m ∷ ms) zero = order_of w (macro_name m) ≡ Less
Belongs w (m ∷ ms) (suc i) = (order_of w (macro_name m) ≡ Greater) × Belongs w ms i

-- ---- byte order

own_order : (o : Ordering) → o ≡ ordering_reverse o → o ≡ Equal
own_order Less e = cc
own_order Equal e = refl
own_order Greater e = cc

order_same : (w : List ℕ) → order_of w w ≡ Equal
order_same w = own_order (order_of w w) (order_turned w w)

order_back : (v w : List ℕ) {o : Ordering} → order_of v w ≡ o → order_of w v ≡ ordering_reverse o
order_back v w e = order_turned v w ∙ ap ordering_reverse e

-- a name in another order is another name
apart : (v w : List ℕ) (o : Ordering) → order_of v w ≡ o → is_eq o ≡ false → w ≡ v → ⊥
apart v w o e f q =
    let s = order_same v in
    let n : true ≡ false = cc in
    let z : ◌≡◌ {A = ℕ} 0 1 = cc in
    omega arith

-- ---- the place that `find` gives

abbrev next : Result ℕ ℕ → Result ℕ ℕ
next (Ok i) = Ok (suc i)
next (Err i) = Err (suc i)

next_by : (o : Ordering) (k : ℕ) (f g : Result ℕ ℕ) → f ≡ next g → place_by o (suc k) f ≡ next (place_by o k g)
next_by Less k f g e = refl
next_by Equal k f g e = refl
next_by Greater k f g e = e

find_next : (k : ℕ) (w : List ℕ) (ms : List Macro) → find_from (suc k) w ms ≡ next (find_from k w ms)
unfolding find_from
find_next k w [] = refl
find_next k w (m ∷ ms) =
    next_by (order_of w (macro_name m)) k (find_from (suc (suc k)) w ms) (find_from (suc k) w ms) (find_next (suc k) w ms)

-- the number that the name had or would have
abbrev pub place_of : Result ℕ ℕ → ℕ
place_of (Ok i) = i
place_of (Err i) = i

abbrev Judged : Result ℕ ℕ → List ℕ → List Macro → Type 0
Judged (Ok i) w ms = Stands w ms i
Judged (Err i) w ms = Belongs w ms i

judged_past : (f : Result ℕ ℕ) (w : List ℕ) (m : Macro) (ms : List Macro) → order_of w (macro_name m) ≡ Greater → Judged f w ms
    → Judged (next f) w (m ∷ ms)
judged_past (Ok i) w m ms e j = (e, j)
judged_past (Err i) w m ms e j = (e, j)

judged-by : (o : Ordering) (f g : Result ℕ ℕ) (w : List ℕ) (m : Macro) (ms : List Macro) → order_of w (macro_name m) ≡ o → g ≡ next f
    → Judged f w ms → Judged (place_by o 0 g) w (m ∷ ms)
judged-by Less f g w m ms e q j = e
judged-by Equal f g w m ms e q j = e
judged-by Greater f g w m ms e q j = subst (λ (h : Result ℕ ℕ). Judged h w (m ∷ ms)) (sym q) (judged_past f w m ms e j)

judged : (w : List ℕ) (ms : List Macro) → Judged (find w ms) w ms
unfolding find_from
judged w [] = tt
judged w (m ∷ ms) =
    judged-by (order_of w (macro_name m)) (find_from 0 w ms) (find_from 1 w ms) w m ms refl (find_next 0 w ms) (judged w ms)

pub stands : (w : List ℕ) (ms : List Macro) {i : ℕ} → find w ms ≡ Ok i → Stands w ms i
stands w ms e = subst (λ (f : Result ℕ ℕ). Judged f w ms) e (judged w ms)

pub belongs : (w : List ℕ) (ms : List Macro) {i : ℕ} → find w ms ≡ Err i → Belongs w ms i
belongs w ms e = subst (λ (f : Result ℕ ℕ). Judged f w ms) e (judged w ms)

find_past : (w : List ℕ) (m : Macro) (ms : List Macro) (f : Result ℕ ℕ) → order_of w (macro_name m) ≡ Greater → find w ms ≡ f
    → find w (m ∷ ms) ≡ next f
unfolding find_from
find_past w m ms f e q = rw e (find_next 0 w ms ∙ ap next q)

pub find_stands : (w : List ℕ) (ms : List Macro) (i : ℕ) → Stands w ms i → find w ms ≡ Ok i
unfolding find_from
find_stands w [] i s = absurd s
find_stands w (m ∷ ms) zero s = rw s
find_stands w (m ∷ ms) (suc i) s = find_past w m ms (Ok i) s.0 (find_stands w ms i s.1)

pub find_belongs : (w : List ℕ) (ms : List Macro) (i : ℕ) → Belongs w ms i → find w ms ≡ Err i
unfolding find_from
find_belongs w [] zero b = refl
find_belongs w [] (suc i) b = absurd b
find_belongs w (m ∷ ms) zero b = rw b
find_belongs w (m ∷ ms) (suc i) b = find_past w m ms (Err i) b.0 (find_belongs w ms i b.1)

-- ---- a name is found exactly if it is defined

stands_name : (w : List ℕ) (ms : List Macro) (i : ℕ) → Stands w ms i → macro_name (macro_at ms i) ≡ w
stands_name w [] i s = absurd s
stands_name w (m ∷ ms) zero s = sym (order_equal w (macro_name m) s)
stands_name w (m ∷ ms) (suc i) s = stands_name w ms i s.1

stands_lt : (w : List ℕ) (ms : List Macro) (i : ℕ) → Stands w ms i → i < length ms
stands_lt w [] i s = absurd s
stands_lt w (m ∷ ms) zero s = omega arith
stands_lt w (m ∷ ms) (suc i) s = suc-le-suc (stands_lt w ms i s.1)

belongs_le : (w : List ℕ) (ms : List Macro) (i : ℕ) → Belongs w ms i → i ≤ length ms
belongs_le w [] zero b = omega arith
belongs_le w [] (suc i) b = absurd b
belongs_le w (m ∷ ms) zero b = omega arith
belongs_le w (m ∷ ms) (suc i) b = suc-le-suc (belongs_le w ms i b.1)

below_past : (w : List ℕ) (m : Macro) (ms : List Macro) → order_of w (macro_name m) ≡ Less → Below (macro_name m) ms → Below w ms
below_past w m [] h b = tt
below_past w m (x ∷ ms) h b = order_trans w (macro_name m) (macro_name x) h b

-- a name before the first stands before all
below_all : (w : List ℕ) (ms : List Macro) (k : ℕ) → Below w ms → Ascending ms → k < length ms → order_of w (macro_name (macro_at ms k)) ≡ Less
below_all w [] k b s h = absurd (not-suc-le-zero h)
below_all w (m ∷ ms) zero b s h = b
below_all w (m ∷ ms) (suc k) b s h = below_all w ms k (below_past w m ms b s.0) s.1 (le_of_suc-le-suc h)

belongs_none : (w : List ℕ) (ms : List Macro) (i k : ℕ) → Ascending ms → Belongs w ms i → k < length ms → macro_name (macro_at ms k) ≡ w → ⊥
belongs_none w [] i k s b h q = absurd (not-suc-le-zero h)
belongs_none w (m ∷ ms) zero k s b h q = apart w (macro_name (macro_at (m ∷ ms) k)) Less (below_all w (m ∷ ms) k b s h) refl q
belongs_none w (m ∷ ms) (suc i) zero s b h q = apart w (macro_name m) Greater b.0 refl q
belongs_none w (m ∷ ms) (suc i) (suc k) s b h q = belongs_none w ms i k s.1 b.1 (le_of_suc-le-suc h) q

named_stands : (w : List ℕ) (ms : List Macro) (k : ℕ) → Ascending ms → k < length ms → macro_name (macro_at ms k) ≡ w → Stands w ms k
named_stands w [] k s h q = absurd (not-suc-le-zero h)
named_stands w (m ∷ ms) zero s h q = rw q (order_same w)
named_stands w (m ∷ ms) (suc k) s h q =
    let l : order_of (macro_name m) w ≡ Less = subst (λ (v : List ℕ). order_of (macro_name m) v ≡ Less) q (below_all (macro_name m) ms k s.0 s.1 (le_of_suc-le-suc h)) in
    (order_back (macro_name m) w l, named_stands w ms k s.1 (le_of_suc-le-suc h) q)

pub find_at_name : (w : List ℕ) (ms : List Macro) {i : ℕ} → find w ms ≡ Ok i → macro_name (macro_at ms i) ≡ w
find_at_name w ms {i} e = stands_name w ms i (stands w ms e)

pub find_at_lt : (w : List ℕ) (ms : List Macro) {i : ℕ} → find w ms ≡ Ok i → i < length ms
find_at_lt w ms {i} e = stands_lt w ms i (stands w ms e)

pub find_missing_none : (w : List ℕ) (ms : List Macro) {i : ℕ} → Ascending ms → find w ms ≡ Err i
    → (k : ℕ) → k < length ms → macro_name (macro_at ms k) ≡ w → ⊥
find_missing_none w ms {i} s e k h q = belongs_none w ms i k s (belongs w ms e) h q

pub find_missing_le : (w : List ℕ) (ms : List Macro) {i : ℕ} → find w ms ≡ Err i → i ≤ length ms
find_missing_le w ms {i} e = belongs_le w ms i (belongs w ms e)

-- the number of a macro is its place in byte order: what has the name is what is found
pub find_named : (w : List ℕ) (ms : List Macro) (k : ℕ) → Ascending ms → k < length ms → macro_name (macro_at ms k) ≡ w → find w ms ≡ Ok k
find_named w ms k s h q = find_stands w ms k (named_stands w ms k s h q)

-- ---- a definition

module _ (m : Macro) where
  below_put : (w : List ℕ) (ms rest : List Macro) (i : ℕ) → order_of w (macro_name m) ≡ Less → Below w ms → Below w (take i ms ++ (m ∷ rest))
  below_put w [] rest zero h b = h
  below_put w [] rest (suc i) h b = h
  below_put w (x ∷ ms) rest zero h b = h
  below_put w (x ∷ ms) rest (suc i) h b = b

  replace_ascends : (ms : List Macro) (i : ℕ) → Ascending ms → Stands (macro_name m) ms i → Ascending (replace_at i m ms)
  replace_ascends [] i s t = absurd t
  replace_ascends (x ∷ ms) zero s t = (subst (λ (v : List ℕ). Below v ms) (sym (order_equal (macro_name m) (macro_name x) t)) s.0, s.1)
  replace_ascends (x ∷ ms) (suc i) s t =
      (below_put (macro_name x) ms (drop (suc i) ms) i (order_back (macro_name m) (macro_name x) t.0) s.0, replace_ascends ms i s.1 t.1)

  insert_ascends : (ms : List Macro) (i : ℕ) → Ascending ms → Belongs (macro_name m) ms i → Ascending (insert_at i m ms)
  insert_ascends [] zero s b = (tt, tt)
  insert_ascends [] (suc i) s b = absurd b
  insert_ascends (x ∷ ms) zero s b = (b, s)
  insert_ascends (x ∷ ms) (suc i) s b =
      (below_put (macro_name x) ms (drop i ms) i (order_back (macro_name m) (macro_name x) b.0) s.0, insert_ascends ms i s.1 b.1)

  replace_stands : (ms : List Macro) (i : ℕ) → Stands (macro_name m) ms i → Stands (macro_name m) (replace_at i m ms) i
  replace_stands [] i t = absurd t
  replace_stands (x ∷ ms) zero t = order_same (macro_name m)
  replace_stands (x ∷ ms) (suc i) t = (t.0, replace_stands ms i t.1)

  insert_stands : (ms : List Macro) (i : ℕ) → Belongs (macro_name m) ms i → Stands (macro_name m) (insert_at i m ms) i
  insert_stands [] zero b = order_same (macro_name m)
  insert_stands [] (suc i) b = absurd b
  insert_stands (x ∷ ms) zero b = order_same (macro_name m)
  insert_stands (x ∷ ms) (suc i) b = (b.0, insert_stands ms i b.1)

  replace_length : (ms : List Macro) (i : ℕ) → i < length ms → length (replace_at i m ms) ≡ length ms
  replace_length [] i h = absurd (not-suc-le-zero h)
  replace_length (x ∷ ms) zero h = refl
  replace_length (x ∷ ms) (suc i) h = ap suc (replace_length ms i (le_of_suc-le-suc h))

  insert_length : (ms : List Macro) (i : ℕ) → length (insert_at i m ms) ≡ suc (length ms)
  insert_length [] zero = refl
  insert_length [] (suc i) = refl
  insert_length (x ∷ ms) zero = refl
  insert_length (x ∷ ms) (suc i) = ap suc (insert_length ms i)

  define-by : (f : Result ℕ ℕ) (ms : List Macro) → Ascending ms → Judged f (macro_name m) ms → Ascending (define_by f m ms)
  define-by (Ok i) ms s j = replace_ascends ms i s j
  define-by (Err i) ms s j = insert_ascends ms i s j

  pub define_ascends : (ms : List Macro) → Ascending ms → Ascending (define m ms)
  unfolding define
  define_ascends ms s = define-by (find (macro_name m) ms) ms s (judged (macro_name m) ms)

  pub define_at : (ms : List Macro) (f : Result ℕ ℕ) → find (macro_name m) ms ≡ f → define m ms ≡ define_by f m ms
  unfolding define
  define_at ms f e = ap (λ (g : Result ℕ ℕ). define_by g m ms) e

  put_at : (ms rest : List Macro) (i : ℕ) → i ≤ length ms → macro_at (take i ms ++ (m ∷ rest)) i ≡ m
  put_at [] rest zero h = refl
  put_at [] rest (suc i) h = absurd (not-suc-le-zero h)
  put_at (x ∷ ms) rest zero h = refl
  put_at (x ∷ ms) rest (suc i) h = put_at ms rest i (le_of_suc-le-suc h)

  put_by : (f : Result ℕ ℕ) (ms : List Macro) → Judged f (macro_name m) ms → macro_at (define_by f m ms) (place_of f) ≡ m
  put_by (Ok i) ms j =
      let h = stands_lt (macro_name m) ms i j in
      put_at ms (drop (suc i) ms) i (omega arith)
  put_by (Err i) ms j = put_at ms (drop i ms) i (belongs_le (macro_name m) ms i j)

  -- what is defined stands at the place of its name
  pub define_macro : (ms : List Macro) → macro_at (define m ms) (place_of (find (macro_name m) ms)) ≡ m
  unfolding define
  define_macro ms = put_by (find (macro_name m) ms) ms (judged (macro_name m) ms)

  -- a redefinition keeps the number
  pub redefine_at : (ms : List Macro) {i : ℕ} → find (macro_name m) ms ≡ Ok i → find (macro_name m) (define m ms) ≡ Ok i
  redefine_at ms {i} e =
      ap (find (macro_name m)) (define_at ms (Ok i) e) ∙ find_stands (macro_name m) (replace_at i m ms) i (replace_stands ms i (stands (macro_name m) ms e))

  pub redefine_length : (ms : List Macro) {i : ℕ} → find (macro_name m) ms ≡ Ok i → length (define m ms) ≡ length ms
  redefine_length ms {i} e = ap length (define_at ms (Ok i) e) ∙ replace_length ms i (find_at_lt (macro_name m) ms e)

  pub define_new_at : (ms : List Macro) {i : ℕ} → find (macro_name m) ms ≡ Err i → find (macro_name m) (define m ms) ≡ Ok i
  define_new_at ms {i} e =
      ap (find (macro_name m)) (define_at ms (Err i) e) ∙ find_stands (macro_name m) (insert_at i m ms) i (insert_stands ms i (belongs (macro_name m) ms e))

  pub define_new_length : (ms : List Macro) {i : ℕ} → find (macro_name m) ms ≡ Err i → length (define m ms) ≡ suc (length ms)
  define_new_length ms {i} e = ap length (define_at ms (Err i) e) ∙ insert_length ms i

-- ---- `undef`

below_remove : (v : List ℕ) (ms : List Macro) (i : ℕ) → Below v ms → Ascending ms → Below v (remove_at i ms)
below_remove v [] zero b s = tt
below_remove v [] (suc i) b s = tt
below_remove v (x ∷ ms) zero b s = below_past v x ms b s.0
below_remove v (x ∷ ms) (suc i) b s = b

remove_ascends : (ms : List Macro) (i : ℕ) → Ascending ms → Ascending (remove_at i ms)
remove_ascends [] zero s = tt
remove_ascends [] (suc i) s = tt
remove_ascends (x ∷ ms) zero s = s.1
remove_ascends (x ∷ ms) (suc i) s = (below_remove (macro_name x) ms i s.0 s.1, remove_ascends ms i s.1)

remove_length : (ms : List Macro) (i : ℕ) → i < length ms → suc (length (remove_at i ms)) ≡ length ms
remove_length [] i h = absurd (not-suc-le-zero h)
remove_length (x ∷ ms) zero h = refl
remove_length (x ∷ ms) (suc i) h = ap suc (remove_length ms i (le_of_suc-le-suc h))

undefine-by : (f : Result ℕ ℕ) (ms : List Macro) → Ascending ms → Ascending (undefine_by f ms)
undefine-by (Ok i) ms s = remove_ascends ms i s
undefine-by (Err i) ms s = s

module _ (w : List ℕ) where
  below_belongs : (ms : List Macro) → Below w ms → Belongs w ms 0
  below_belongs [] b = tt
  below_belongs (x ∷ ms) b = b

  remove_belongs : (ms : List Macro) (i : ℕ) → Ascending ms → Stands w ms i → Belongs w (remove_at i ms) i
  remove_belongs [] i s t = absurd t
  remove_belongs (x ∷ ms) zero s t =
      below_belongs ms (subst (λ (v : List ℕ). Below v ms) (sym (order_equal w (macro_name x) t)) s.0)
  remove_belongs (x ∷ ms) (suc i) s t = (t.0, remove_belongs ms i s.1 t.1)

  pub undefine_ascends : (ms : List Macro) → Ascending ms → Ascending (undefine w ms)
  unfolding undefine
  undefine_ascends ms s = undefine-by (find w ms) ms s

  undefine_at : (ms : List Macro) (f : Result ℕ ℕ) → find w ms ≡ f → undefine w ms ≡ undefine_by f ms
  unfolding undefine
  undefine_at ms f e = ap (λ (g : Result ℕ ℕ). undefine_by g ms) e

  pub undefine_length : (ms : List Macro) {i : ℕ} → find w ms ≡ Ok i → suc (length (undefine w ms)) ≡ length ms
  undefine_length ms {i} e = ap (λ (l : List Macro). suc (length l)) (undefine_at ms (Ok i) e) ∙ remove_length ms i (find_at_lt w ms e)

  -- "`undef` of an unknown name does nothing"
  pub undefine_missing : (ms : List Macro) {i : ℕ} → find w ms ≡ Err i → undefine w ms ≡ ms
  undefine_missing ms {i} e = undefine_at ms (Err i) e

  gone_by : (f : Result ℕ ℕ) (ms : List Macro) → Ascending ms → Judged f w ms → find w (undefine_by f ms) ≡ Err (place_of f)
  gone_by (Ok i) ms s j = find_belongs w (remove_at i ms) i (remove_belongs ms i s j)
  gone_by (Err i) ms s j = find_belongs w ms i j

  pub undefine_gone : (ms : List Macro) → Ascending ms → find w (undefine w ms) ≡ Err (place_of (find w ms))
  unfolding undefine
  undefine_gone ms s = gone_by (find w ms) ms s (judged w ms)

  pub undefine_none : (ms : List Macro) → Ascending ms → (k : ℕ) → k < length (undefine w ms) → macro_name (macro_at (undefine w ms) k) ≡ w → ⊥
  undefine_none ms s = find_missing_none w (undefine w ms) (undefine_ascends ms s) (undefine_gone ms s)
