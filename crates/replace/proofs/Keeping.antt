-- An argument's tokens added, cleaned, but for the spacing before the first that is none.
-- Assumes nothing.
use Prim.Native.Nat.{ℕ, ◌+◌, ◌<◌, ◌≤◌}
use mathlib.Core.Bool.{Bool, true, false, ◌&&◌}
use mathlib.Core.List.{List, [], ◌∷◌, ◌++◌, append_assoc, append-nil}
use mathlib.Core.Path.{◌≡◌, refl, sym, ap, ◌∙◌}
use native.Mathlib.Omega.{arith}
use lib.Dec.{eqb}
use lib.ListN.{length}
use borrow.Author.Tests.{eq-eqb, ne_eqb}
use Rattle.pending.specs.Pending.{Pending, is_spacing}
use Rattle.pending.specs.References.{pending_by, cleaned_ref}
use Rattle.pending.specs.Sources.{items_from, last_of, item_of, ItemIs, Spans}
use Rattle.pending.specs.Adding.{Takes, Adds, AddsBy}
use Rattle.pending.specs.declared.Item.{Item}
use Rattle.pending.specs.declared.Pend.{Pend}
use Rattle.std.proofs.Common.{None}
use Rattle.pending.proofs.Spanning.{Past, spans_at, spans_cons, items_apart}
use Rattle.pending.proofs.Adding.{adds_none, adds_then, adds_full_behind}
use Rattle.pending.proofs.Cleaning.{clean_is}
use Rattle.replace.specs.Tidying.{cleaned, before_newline, is_backslash, cleaned_all, drop_left}
use Rattle.replace.proofs.Tidying.{left_spacing, left_stop, cleaned_break, cleaned_more, spans_there}

-- ---- the reference of a token that is put in place

clean_joins : (s b : List ℕ) (t : Item) → pending_by s b (cleaned_ref t.pend) ≡ cleaned (item_of s b t)
unfolding pending_by
clean_joins s b t = clean_is s b t.pend

module _ (s b : List ℕ) (t : Item) (w : Pend) (e : w ≡ cleaned_ref t.pend) where
  put_is : pending_by s b w ≡ cleaned (item_of s b t)
  put_is = ap (λ (p : Pend). pending_by s b p) e ∙ clean_joins s b t

  put_spacing : (x : Bool) → x ≡ is_spacing w.kind → is_spacing (cleaned (item_of s b t)).kind ≡ x
  unfolding pending_by
  put_spacing x q = sym (q ∙ ap (λ (p : Pending). is_spacing p.kind) put_is)

-- ---- the spacing at the beginning

-- dropped while there is nothing else
abbrev led : Bool → List Pending → List Pending
led true xs = drop_left xs
led false xs = xs

led_none : (z : Bool) → led z [] ≡ []
unfolding drop_left
led_none true = refl
led_none false = refl

led_spacing : (z : Bool) (c : Pending) (xs : List Pending) → (z && is_spacing c.kind) ≡ true → led z (c ∷ xs) ≡ led z xs
led_spacing true c xs e = left_spacing c xs e
led_spacing false c xs e = let z : ◌≡◌ {A = ℕ} 0 1 = cc in absurd (omega arith)

led_stop : (z : Bool) (c : Pending) (xs : List Pending) → (z && is_spacing c.kind) ≡ false → led z (c ∷ xs) ≡ c ∷ xs
led_stop true c xs e = left_stop c xs e
led_stop false c xs e = refl

-- ---- the tokens added so far, and those ahead

pub record Keeping (s b : List ℕ) (f : ℕ → List Pending) (o o' : List (List ℕ)) (most at to i k : ℕ) (ps : List Pending) : Type 0 where
  pub added : List Pending
  pub rest : List Pending
  pub ahead : Spans f i to rest
  pub adds : Adds s b o o' most at k added
  pub list : drop_left (cleaned_all ps) ≡ added ++ led (eqb k at) (cleaned_all rest)

-- what else holds, whatever the tokens are
pub record Room (o o' : List (List ℕ)) (most k : ℕ) : Type 0 where
  pub same_length : length o' ≡ length o
  pub fits : k ≤ most

pub keep_first : (s b : List ℕ) {f : ℕ → List Pending} {o : List (List ℕ)} {most at from to : ℕ} {ps : List Pending} → Takes o most at → Spans f from to ps → Keeping s b f o o most at to from at ps
keep_first s b {o = o} {most = most} {at = at} {ps = ps} t sp = record {
  added = [];
  rest = ps;
  ahead = sp;
  adds = adds_none s b o most at t.filled;
  list = rw (eq-eqb at at refl);
}

module _ {s b : List ℕ} {f : ℕ → List Pending} {o o1 : List (List ℕ)} {most at to i k : ℕ} {ps : List Pending} (T : Keeping s b f o o1 most at to i k ps) where
  pub keep_last : to ≤ i → Adds s b o o1 most at k (drop_left (cleaned_all ps))
  unfolding cleaned_all
  keep_last h =
      let z : T.rest ≡ [] = (spans_at T.ahead h).1 in
      let l : drop_left (cleaned_all ps) ≡ T.added =
      T.list ∙ ap (λ (q : List Pending). T.added ++ led (eqb k at) (cleaned_all q)) z ∙ ap (λ (q : List Pending). T.added ++ q) (led_none (eqb k at)) ∙ append-nil T.added in
      rw l T.adds

  module _ {next : ℕ} {p : Pending} (v : Past f next to p T.rest) where
    list_break : (is_backslash p && before_newline v.rest) ≡ true → drop_left (cleaned_all ps) ≡ T.added ++ led (eqb k at) (cleaned_all v.rest)
    list_break q = T.list ∙ ap (λ (r : List Pending). T.added ++ led (eqb k at) r) (ap (λ (r : List Pending). cleaned_all r) v.list ∙ cleaned_break p v.rest q)

    list_more : (is_backslash p && before_newline v.rest) ≡ false → drop_left (cleaned_all ps) ≡ T.added ++ led (eqb k at) (cleaned p ∷ cleaned_all v.rest)
    list_more q = T.list ∙ ap (λ (r : List Pending). T.added ++ led (eqb k at) r) (ap (λ (r : List Pending). cleaned_all r) v.list ∙ cleaned_more p v.rest q)

    past_break : (is_backslash p && before_newline v.rest) ≡ true → Keeping s b f o o1 most at to next k ps
    past_break q = record { added = T.added; rest = v.rest; ahead = v.spans; adds = T.adds; list = list_break q }

    module _ (q : (is_backslash p && before_newline v.rest) ≡ false) where
      past_spacing : (eqb k at && is_spacing (cleaned p).kind) ≡ true → Keeping s b f o o1 most at to next k ps
      past_spacing z = record {
        added = T.added;
        rest = v.rest;
        ahead = v.spans;
        adds = T.adds;
        list = list_more q ∙ ap (λ (r : List Pending). T.added ++ r) (led_spacing (eqb k at) (cleaned p) (cleaned_all v.rest) z);
      }

      list_put : (eqb k at && is_spacing (cleaned p).kind) ≡ false → drop_left (cleaned_all ps) ≡ T.added ++ (cleaned p ∷ cleaned_all v.rest)
      list_put z = list_more q ∙ ap (λ (r : List Pending). T.added ++ r) (led_stop (eqb k at) (cleaned p) (cleaned_all v.rest) z)

      past_put : {o2 : List (List ℕ)} {m : ℕ} → (eqb k at && is_spacing (cleaned p).kind) ≡ false → Adds s b o1 o2 most k m (cleaned p ∷ []) → Keeping s b f o o2 most at to next m ps
      past_put {m = m} z a =
          let w : eqb m at ≡ false = ne_eqb m at (λ e. omega (arith, a.count, T.adds.count)) in
          record {
            added = T.added ++ cleaned p ∷ [];
            rest = v.rest;
            ahead = v.spans;
            adds = adds_then T.adds a;
            list = rw w (list_put z ∙ sym (append_assoc T.added (cleaned p ∷ []) (cleaned_all v.rest)));
          }

      past_full : (o2 : List (List ℕ)) → (eqb k at && is_spacing (cleaned p).kind) ≡ false → (most < k + 1) × (length o2 ≡ length o1) → AddsBy None s b o o2 most at (drop_left (cleaned_all ps))
      past_full o2 z a = rw (list_put z) (adds_full_behind T.adds (cleaned p ∷ []) (cleaned_all v.rest) a.0, a.1 ∙ T.adds.same_length)

-- ---- by what the code sees

module _ (s b : List ℕ) (l : List (List ℕ)) (n : ℕ) (file : Bool) {o o1 : List (List ℕ)} {most at to i k : ℕ} {ps : List Pending} (T : Keeping s b (items_from s b l n file) o o1 most at to i k ps) (h : i < to) (m : to ≤ last_of s n file) where
  pub keep_none : items_from s b l n file i ≡ [] → ⊥
  keep_none q = spans_there T.ahead h q

  module _ (t : Item) (item : ItemIs (items_from s b l n file) (last_of s n file) i (item_of s b t) t.next) (y : Bool)
      (breaks : (qs : List Pending) → Spans (items_from s b l n file) t.next to qs → to ≤ last_of s n file → y ≡ (is_backslash (item_of s b t) && before_newline qs)) where
    past : Past (items_from s b l n file) t.next to (item_of s b t) T.rest
    past = spans_cons (items_apart s b l n file) item T.ahead h m

    breaks_so : (z : Bool) → y ≡ z → (is_backslash (item_of s b t) && before_newline past.rest) ≡ z
    breaks_so z e = sym (breaks past.rest past.spans m) ∙ e

    pub keep_break : y ≡ true → Keeping s b (items_from s b l n file) o o1 most at to t.next k ps
    keep_break z = past_break T past (breaks_so true z)

    module _ (u : y ≡ false) (w : Pend) (e : w ≡ cleaned_ref t.pend) (x : Bool) (d : x ≡ is_spacing w.kind) where
      so : (z : Bool) → (eqb k at && x) ≡ z → (eqb k at && is_spacing (cleaned (item_of s b t)).kind) ≡ z
      so z g = ap (λ (x : Bool). eqb k at && x) (put_spacing s b t w e x d) ∙ g

      pub keep_spacing : (eqb k at && x) ≡ true → Keeping s b (items_from s b l n file) o o1 most at to t.next k ps
      keep_spacing z = past_spacing T past (breaks_so false u) (so true z)

      module _ (z : (eqb k at && x) ≡ false) (o2 : List (List ℕ)) where
        pub keep_put : {j : ℕ} → Adds s b o1 o2 most k j (pending_by s b w ∷ []) → Keeping s b (items_from s b l n file) o o2 most at to t.next j ps
        keep_put {j} a = let c : Adds s b o1 o2 most k j (cleaned (item_of s b t) ∷ []) = rw (put_is s b t w e) at a in past_put T past (breaks_so false u) (so false z) c

        pub keep_full : (most < k + 1) × (length o2 ≡ length o1) → AddsBy None s b o o2 most at (drop_left (cleaned_all ps))
        keep_full a = past_full T past (breaks_so false u) o2 (so false z) a

-- ---- the room that is left

pub room_put : {s b : List ℕ} {o o1 o2 : List (List ℕ)} {most k j : ℕ} {q : List Pending} → Room o o1 most k → Adds s b o1 o2 most k j q → Room o o2 most j
room_put a d = record { same_length = d.same_length ∙ a.same_length; fits = d.fits }
