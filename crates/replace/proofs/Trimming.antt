-- An argument without the spacing at its end: the tokens passed so far, those of them that are kept, and those ahead.
-- Assumes nothing.
use Prim.Native.Nat.{ℕ, ◌<◌, ◌≤◌}
use native.Mathlib.Nat.{le_refl}
use mathlib.Core.Bool.{Bool, true, false, ◌&&◌, and-false}
use mathlib.Core.List.{List, [], ◌∷◌, ◌++◌, append_assoc, append-nil}
use mathlib.Core.Path.{◌≡◌, refl, sym, ap, ◌∙◌}
use native.Mathlib.Omega.{arith}
use Rattle.pending.specs.Pending.{Pending, is_blank}
use Rattle.pending.specs.References.{pending_by}
use Rattle.pending.specs.Sources.{items_from, last_of, item_of, ItemIs, Spans}
use Rattle.pending.specs.Sources.Spans.{none}
use Rattle.pending.specs.declared.Item.{Item}
use Rattle.pending.proofs.Spanning.{Past, spans_less, spans_at, spans_snoc, spans_cons, items_apart}
use Rattle.replace.specs.Tidying.{cleaned, before_newline, is_backslash, cleaned_all, drop_left, drop_right, tidy, Trims}
use Rattle.replace.proofs.Tidying.{both_more, both_stop, cleaned_spacing, cleaned_break, cleaned_more, spans_there}

-- of ps the tokens `read` are passed, up to i, which give `done`; those before e are kept
pub record Trimming (f : ℕ → List Pending) (from to i e : ℕ) (ps : List Pending) : Type 0 where
  pub read : List Pending
  pub rest : List Pending
  pub kept : List Pending
  pub done : List Pending
  pub list : ps ≡ read ++ rest
  pub passed : Spans f from i read
  pub ahead : Spans f i to rest
  pub spans : Spans f from e kept
  pub before : e ≤ i
  pub cleans : (ys : List Pending) → before_newline ys ≡ before_newline rest → cleaned_all (read ++ ys) ≡ done ++ cleaned_all ys
  pub tidied : drop_right (drop_left done) ≡ drop_left (cleaned_all kept)

pub trim_first : {f : ℕ → List Pending} {from to : ℕ} {ps : List Pending} → Spans f from to ps → Trimming f from to from from ps
unfolding cleaned_all drop_left drop_right
trim_first {from = from} {ps = ps} sp = record {
  read = [];
  rest = ps;
  kept = [];
  done = [];
  list = refl;
  passed = none;
  ahead = sp;
  spans = none;
  before = le_refl from;
  cleans = λ ys h. refl;
  tidied = refl;
}

module _ {f : ℕ → List Pending} {from to i e : ℕ} {ps : List Pending} (T : Trimming f from to i e ps) where
  pub trim_last : to ≤ i → Trims f from to e ps
  unfolding cleaned_all
  trim_last h =
      let z : T.rest ≡ [] = (spans_at T.ahead h).1 in
      let l : ps ≡ T.read ++ [] = T.list ∙ ap (λ (r : List Pending). T.read ++ r) z in
      let d : cleaned_all (T.read ++ []) ≡ T.done = T.cleans [] (ap (λ (r : List Pending). before_newline r) (sym z)) ∙ append-nil T.done in
      let w : i ≤ to = spans_less T.ahead in
      let b : e ≤ i = T.before in
      record {
        kept = T.kept;
        spans = T.spans;
        before = omega arith;
        tidied = ap (λ (q : List Pending). tidy q) l ∙ ap (λ (q : List Pending). drop_right (drop_left q)) d ∙ T.tidied;
      }

  module _ {last next : ℕ} {p : Pending} (t : ItemIs f last i p next) (v : Past f next to p T.rest) where
    first_is : (ys : List Pending) → before_newline (p ∷ ys) ≡ before_newline T.rest
    first_is ys = ap (λ (r : List Pending). before_newline r) (sym v.list)

    list_is : ps ≡ (T.read ++ p ∷ []) ++ v.rest
    list_is = T.list ∙ ap (λ (r : List Pending). T.read ++ r) v.list ∙ sym (append_assoc T.read (p ∷ []) v.rest)

    moved : (ys : List Pending) → cleaned_all ((T.read ++ p ∷ []) ++ ys) ≡ T.done ++ cleaned_all (p ∷ ys)
    moved ys = ap (λ (q : List Pending). cleaned_all q) (append_assoc T.read (p ∷ []) ys) ∙ T.cleans (p ∷ ys) (first_is ys)

    same_break : (z : Bool) → (is_backslash p && before_newline v.rest) ≡ z → (ys : List Pending) → before_newline ys ≡ before_newline v.rest → (is_backslash p && before_newline ys) ≡ z
    same_break z q ys h = ap (λ (x : Bool). is_backslash p && x) h ∙ q

    past_break : (is_backslash p && before_newline v.rest) ≡ true → Trimming f from to next e ps
    past_break q = record {
      read = T.read ++ p ∷ [];
      rest = v.rest;
      kept = T.kept;
      done = T.done;
      list = list_is;
      passed = spans_snoc T.passed t;
      ahead = v.spans;
      spans = T.spans;
      before = omega (arith, T.before, t.past);
      cleans = λ ys h. moved ys ∙ ap (λ (q : List Pending). T.done ++ q) (cleaned_break p ys (same_break true q ys h));
      tidied = T.tidied;
    }

    -- any other token gives one
    cleans_more : (is_backslash p && before_newline v.rest) ≡ false → (ys : List Pending) → before_newline ys ≡ before_newline v.rest
        → cleaned_all ((T.read ++ p ∷ []) ++ ys) ≡ (T.done ++ cleaned p ∷ []) ++ cleaned_all ys
    cleans_more q ys h =
        moved ys ∙ ap (λ (q : List Pending). T.done ++ q) (cleaned_more p ys (same_break false q ys h)) ∙ sym (append_assoc T.done (cleaned p ∷ []) (cleaned_all ys))

    past_spacing : (is_backslash p && before_newline v.rest) ≡ false → is_blank p.kind ≡ true → Trimming f from to next e ps
    past_spacing q k = record {
      read = T.read ++ p ∷ [];
      rest = v.rest;
      kept = T.kept;
      done = T.done ++ cleaned p ∷ [];
      list = list_is;
      passed = spans_snoc T.passed t;
      ahead = v.spans;
      spans = T.spans;
      before = omega (arith, T.before, t.past);
      cleans = cleans_more q;
      tidied = both_more T.done (cleaned p) (cleaned_spacing p ∙ k) ∙ T.tidied;
    }

    past_blank : is_blank p.kind ≡ true → Trimming f from to next e ps
    past_blank k = go (is_backslash p && before_newline v.rest) refl
      where
        go : (z : Bool) → (is_backslash p && before_newline v.rest) ≡ z → Trimming f from to next e ps
        go true q = past_break q
        go false q = past_spacing q k

    past_kept : (is_backslash p && before_newline v.rest) ≡ false → is_blank p.kind ≡ false → Trimming f from to next next ps
    unfolding cleaned_all
    past_kept q k =
        let w : cleaned_all (T.read ++ p ∷ []) ≡ T.done ++ cleaned p ∷ [] =
        T.cleans (p ∷ []) (first_is []) ∙ ap (λ (q : List Pending). T.done ++ q) (cleaned_more p [] (and-false (is_backslash p))) in
        record {
          read = T.read ++ p ∷ [];
          rest = v.rest;
          kept = T.read ++ p ∷ [];
          done = T.done ++ cleaned p ∷ [];
          list = list_is;
          passed = spans_snoc T.passed t;
          ahead = v.spans;
          spans = spans_snoc T.passed t;
          before = le_refl next;
          cleans = cleans_more q;
          tidied = both_stop T.done (cleaned p) (cleaned_spacing p ∙ k) ∙ ap (λ (q : List Pending). drop_left q) (sym w);
        }

-- ---- by what the code sees

module _ (s b : List ℕ) (l : List (List ℕ)) (n : ℕ) (file : Bool) {from to i e : ℕ} {ps : List Pending} (T : Trimming (items_from s b l n file) from to i e ps) (h : i < to) (m : to ≤ last_of s n file) where
  pub trim_none : items_from s b l n file i ≡ [] → ⊥
  trim_none q = spans_there T.ahead h q

  module _ (t : Item) (item : ItemIs (items_from s b l n file) (last_of s n file) i (item_of s b t) t.next) where
    past : Past (items_from s b l n file) t.next to (item_of s b t) T.rest
    past = spans_cons (items_apart s b l n file) item T.ahead h m

    pub trim_blank : (x : Bool) → x ≡ is_blank t.pend.kind → x ≡ true → Trimming (items_from s b l n file) from to t.next e ps
    unfolding pending_by
    trim_blank x w z = past_blank T item past (sym w ∙ z)

    module _ (y : Bool) (breaks : (qs : List Pending) → Spans (items_from s b l n file) t.next to qs → to ≤ last_of s n file → y ≡ (is_backslash (item_of s b t) && before_newline qs)) where
      pub trim_break : y ≡ true → Trimming (items_from s b l n file) from to t.next e ps
      trim_break z = past_break T item past (sym (breaks past.rest past.spans m) ∙ z)

      pub trim_kept : (x : Bool) → x ≡ is_blank t.pend.kind → x ≡ false → y ≡ false → Trimming (items_from s b l n file) from to t.next t.next ps
      unfolding pending_by
      trim_kept x w z u = past_kept T item past (sym (breaks past.rest past.spans m) ∙ u) (sym w ∙ z)
