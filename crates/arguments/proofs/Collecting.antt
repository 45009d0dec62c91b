-- A list read one token at a time: the arguments done, their ranges as noted, and the tokens of the argument being read.
-- Assumes nothing.
use Prim.Native.Nat.{ℕ, ◌+◌, ◌<◌, ◌≤◌}
use mathlib.Core.Bool.{Bool, true, false, cond}
use mathlib.Core.List.{List, [], ◌∷◌, ◌++◌, append_assoc, append-nil}
use mathlib.Core.Logic.{◌⊎◌, inl, inr}
use mathlib.Core.Path.{◌≡◌, refl, sym, ap, ◌∙◌, subst}
use native.Mathlib.Nat.{eq-or-lt_of_le, not-suc-le-zero}
use native.Mathlib.Omega.{arith}
use lib.Dec.{eqb}
use lib.ListN.{length, get_or, set, length-append, length-set, get_or-append}
use lib.Seq.{get_or-set_same, get_or-set_other, get_or_at}
use Rattle.brackets.specs.Stacks.{stack_of}
use Rattle.pending.specs.declared.Item.{Item}
use Rattle.pending.specs.Pending.{Pending, View, view}
use Rattle.pending.specs.Sources.{item_of, ItemIs, Spans}
use Rattle.pending.specs.Sources.Spans.{none}
use Rattle.pending.proofs.Spanning.{spans_snoc}
use Rattle.arguments.specs.Arguments.{Move, keep, part, close, fail, move_of, Args, bad, args, push, split, after, collect}
use Rattle.arguments.specs.Ranges.{Ranged, placed_from, placed_to, Unplaced, Lists}
use Rattle.arguments.proofs.Moves.{by_move}

-- ---- the list as read so far, and the rest

-- the arguments done, the tokens of the one being read, and the rest of the list from there on
abbrev pub gathered : List (List Pending) → List Pending → Args → Args
gathered [] cur (bad n i) = bad n i
gathered [] cur (args a xs r) = args (cur ++ a) xs r
gathered (d ∷ ds) cur (bad n i) = bad n i
gathered (d ∷ ds) cur (args a xs r) = args d (ds ++ ((cur ++ a) ∷ xs)) r

gathered_bad : (done : List (List Pending)) (cur : List Pending) (n i : ℕ) → gathered done cur (bad n i) ≡ bad n i
gathered_bad [] cur n i = refl
gathered_bad (d ∷ ds) cur n i = refl

gathered_push : (done : List (List Pending)) (cur : List Pending) (p : Pending) (g : Args) → gathered done cur (push p g) ≡ gathered done (cur ++ p ∷ []) g
gathered_push [] cur p (bad n i) = refl
gathered_push [] cur p (args a xs r) = ap (λ (z : List Pending). args z xs r) (sym (append_assoc cur (p ∷ []) a))
gathered_push (d ∷ ds) cur p (bad n i) = refl
gathered_push (d ∷ ds) cur p (args a xs r) =
    ap (λ (z : List Pending). args d (ds ++ z ∷ xs) r) (sym (append_assoc cur (p ∷ []) a))

gathered_split : (done : List (List Pending)) (cur : List Pending) (g : Args) → gathered done cur (split g) ≡ gathered (done ++ cur ∷ []) [] g
gathered_split [] cur (bad n i) = refl
gathered_split [] cur (args a xs r) = ap (λ (z : List Pending). args z (a ∷ xs) r) (append-nil cur)
gathered_split (d ∷ ds) cur (bad n i) = refl
gathered_split (d ∷ ds) cur (args a xs r) =
    ap (λ (z : List Pending). args d (ds ++ z ∷ a ∷ xs) r) (append-nil cur)
    ∙ ap (λ (z : List (List Pending)). args d z r) (sym (append_assoc ds (cur ∷ []) (a ∷ xs)))

-- ---- only where no bracket is due a token ends the argument

keep_part : {A : Type 0} (due : List ℕ) → keep due ≡ part → A
keep_part due e = let z : ◌≡◌ {A = ℕ} 0 1 = cc in absurd (omega arith)

fail_part : {A : Type 0} (n i : ℕ) → fail n i ≡ part → A
fail_part n i e = let z : ◌≡◌ {A = ℕ} 0 1 = cc in absurd (omega arith)

inner_part : {A : Type 0} (c : ℕ) (due : List ℕ) (v : View) → move_of v (c ∷ due) ≡ part → A
inner_part {A} c due =
    by_move (λ (m : List ℕ → Move). m (c ∷ due) ≡ part → A) (keep_part (c ∷ due)) (λ d. keep_part (d ∷ c ∷ due)) (λ b. go (eqb b c))
    (keep_part (c ∷ due)) fail_part
  where
    go : (t : Bool) → cond t (keep due) (fail 14 0) ≡ part → A
    go true q = keep_part due q
    go false q = fail_part 14 0 q

pub part_due : (v : View) (due : List ℕ) → move_of v due ≡ part → due ≡ []
part_due v [] e = refl
part_due v (c ∷ due) e = inner_part c due v e

-- ---- the ranges as noted

-- the tokens xs stand in the range r
abbrev Placed : (ℕ → List Pending) → ℕ → List ℕ → List Pending → Type 0
Placed f last r xs = Spans f (get_or r 0 0) (get_or r 1 0) xs × (get_or r 1 0 ≤ last)

module _ {f : ℕ → List Pending} {last : ℕ} where
  ranged_set : (r : List (List ℕ)) (done : List (List Pending)) (k from to : ℕ) (cur : List Pending) → Ranged f last r done
      → k ≡ length done → Spans f from to cur → to ≤ last → Ranged f last (set r k (from ∷ to ∷ 1 ∷ 0 ∷ [])) (done ++ cur ∷ [])
  ranged_set r done k from to cur a q sp w j h l = go (eq-or-lt_of_le below)
    where
      blank : List ℕ
      blank = 0 ∷ 0 ∷ 0 ∷ 0 ∷ []

      v : List ℕ
      v = from ∷ to ∷ 1 ∷ 0 ∷ []

      below : j ≤ length done
      below = omega (arith, length-append done (cur ∷ []))

      there : j < length r
      there = omega (arith, length-set r k v)

      go : (j ≡ length done) ⊎ (j < length done) → Placed f last (get_or (set r k v) j blank) (get_or (done ++ cur ∷ []) j [])
      go (inl e) =
          let x : j ≡ k = e ∙ sym q in
          let y : get_or (set r k v) j blank ≡ v = rw x (get_or-set_same r k v blank (omega (arith, there))) in
          let z : get_or (done ++ cur ∷ []) j [] ≡ cur = get_or_at done cur [] [] j (sym e) in
          rw (y, z) (sp, w)
      go (inr b) =
          let y : get_or (set r k v) j blank ≡ get_or r j blank = get_or-set_other r k j v blank (λ e. omega arith) in
          let z : get_or (done ++ cur ∷ []) j [] ≡ get_or done j [] = get_or-append done (cur ∷ []) [] j b in
          rw (y, z) (a j b there)

-- the next argument is noted, and was not put in place
unplaced_set : (r : List (List ℕ)) (k from to : ℕ) → Unplaced r k → Unplaced (set r k (from ∷ to ∷ 1 ∷ 0 ∷ [])) (k + 1)
unplaced_set r k from to u j h l = go (eq-or-lt_of_le below)
  where
    blank : List ℕ
    blank = 0 ∷ 0 ∷ 0 ∷ 0 ∷ []

    v : List ℕ
    v = from ∷ to ∷ 1 ∷ 0 ∷ []

    below : j ≤ k
    below = omega arith

    there : j < length r
    there = omega (arith, length-set r k v)

    go : (j ≡ k) ⊎ (j < k) → placed_to (set r k v) j < placed_from (set r k v) j
    go (inl e) =
        let y : get_or (set r k v) j blank ≡ v = rw e (get_or-set_same r k v blank (omega (arith, there))) in
        rw y (omega arith)
    go (inr b) =
        let y : get_or (set r k v) j blank ≡ get_or r j blank = get_or-set_other r k j v blank (λ e. omega arith) in
        rw y (u j b there)

-- the list whole: its last argument is the one that was being read
lists_whole : (done : List (List Pending)) (cur : List Pending) {g : Args} {f : ℕ → List Pending} {last : ℕ} {r : List (List ℕ)} {c e : ℕ}
    → g ≡ gathered done cur (args [] [] (f e)) → c ≡ length (done ++ cur ∷ []) → Ranged f last r (done ++ cur ∷ []) → Unplaced r c → e ≤ last → Lists g f last r c e
lists_whole [] cur {f = f} {e = e} p q a u w =
    record {
      first = cur;
      others = [];
      shape = p ∙ ap (λ (z : List Pending). args z [] (f e)) (append-nil cur);
      count = q;
      ranged = a;
      unplaced = u;
      within = w;
    }
lists_whole (d ∷ ds) cur {f = f} {e = e} p q a u w =
    record {
      first = d;
      others = ds ++ cur ∷ [];
      shape = p ∙ ap (λ (z : List Pending). args d (ds ++ z ∷ []) (f e)) (append-nil cur);
      count = q;
      ranged = a;
      unplaced = u;
      within = w;
    }

-- ---- the reading

-- a list from `at` on is read up to i: k arguments, and the one that begins at `from`; the buffers are as long as they were
pub record Collecting (f : ℕ → List Pending) (last at : ℕ) (r₀ r : List (List ℕ)) (w₀ w : List ℕ) (from i k depth : ℕ) : Type 0 where
  pub done : List (List Pending)
  pub current : List Pending
  pub whole : collect (f at) [] ≡ gathered done current (collect (f i) (stack_of w depth))
  pub spans : Spans f from i current
  pub count : k ≡ length done
  pub ranged : Ranged f last r done
  pub unplaced : Unplaced r k
  pub deep : depth + at ≤ i
  pub many : k + at ≤ i
  pub within : i ≤ last
  pub same_ranges : length r ≡ length r₀
  pub same_stack : length w ≡ length w₀

pub collect_first : {f : ℕ → List Pending} {last at : ℕ} {r : List (List ℕ)} {w : List ℕ} → at ≤ last → Collecting f last at r r w w at at 0 0
unfolding stack_of
collect_first {f} {at = at} h =
    record {
      done = [];
      current = [];
      whole = first (collect (f at) []);
      spans = none;
      count = refl;
      ranged = λ j l. absurd (not-suc-le-zero l);
      unplaced = λ j l. absurd (not-suc-le-zero l);
      deep = omega arith;
      many = omega arith;
      within = h;
      same_ranges = refl;
      same_stack = refl;
    }
  where
    first : (g : Args) → g ≡ gathered [] [] g
    first (bad n i) = refl
    first (args a xs r) = refl

module _ {f : ℕ → List Pending} {last at : ℕ} {r₀ r : List (List ℕ)} {w₀ w : List ℕ} {from i k depth : ℕ} (a : Collecting f last at r₀ r w₀ w from i k depth) where
  -- after a token and its move
  collect_after : {p : Pending} {next : ℕ} (m : Move) → f i ≡ p ∷ f next → move_of (view p) (stack_of w depth) ≡ m
      → collect (f at) [] ≡ gathered a.done a.current (after m p (f next) (λ d. collect (f next) d))
  unfolding collect
  collect_after {p} {next} m e g =
      a.whole
      ∙ (ap (λ (ps : List Pending). gathered a.done a.current (collect ps (stack_of w depth))) e
      ∙ ap (λ (m : Move). gathered a.done a.current (after m p (f next) (λ d. collect (f next) d))) g)

  pub collect_end : f i ≡ [] → collect (f at) [] ≡ bad 14 0
  unfolding collect
  collect_end e =
      a.whole
      ∙ (ap (λ (ps : List Pending). gathered a.done a.current (collect ps (stack_of w depth))) e
      ∙ gathered_bad a.done a.current 14 0)

  module _ (s b : List ℕ) (t : Item) (z : ItemIs f last i (item_of s b t) t.next) where
    -- the move of the token
    abbrev Moves : Move → Type 0
    Moves m = move_of (view (item_of s b t)) (stack_of w depth) ≡ m

    pub collect_keep : {w' : List ℕ} {d : ℕ} → Moves (keep (stack_of w' d)) × (d ≤ depth + 1) → length w' ≡ length w → Collecting f last at r₀ r w₀ w' from t.next k d
    collect_keep {w'} {d} y l = record {
      done = a.done;
      current = a.current ++ item_of s b t ∷ [];
      whole =
          collect_after (keep (stack_of w' d)) z.tokens y.0
          ∙ gathered_push a.done a.current (item_of s b t) (collect (f t.next) (stack_of w' d));
      spans = spans_snoc a.spans z;
      count = a.count;
      ranged = a.ranged;
      unplaced = a.unplaced;
      deep = omega (arith, a.deep, z.past, y.1);
      many = omega (arith, a.many, z.past);
      within = z.within;
      same_ranges = a.same_ranges;
      same_stack = l ∙ a.same_stack;
    }

    pub collect_fail : {x y : ℕ} → Moves (fail x y) → collect (f at) [] ≡ bad x y
    collect_fail {x} {y} e = collect_after (fail x y) z.tokens e ∙ gathered_bad a.done a.current x y

    -- the range of the argument is noted
    module _ {r' : List (List ℕ)} (v : r' ≡ set r k (from ∷ i ∷ 1 ∷ 0 ∷ [])) where
      noted : Ranged f last r' (a.done ++ a.current ∷ [])
      noted =
          subst (λ (x : List (List ℕ)). Ranged f last x (a.done ++ a.current ∷ [])) (sym v)
          (ranged_set r a.done k from i a.current a.ranged a.count a.spans a.within)

      still : Unplaced r' (k + 1)
      still = subst (λ (x : List (List ℕ)). Unplaced x (k + 1)) (sym v) (unplaced_set r k from i a.unplaced)

      counted : k + 1 ≡ length (a.done ++ a.current ∷ [])
      counted = rw length-append (omega (arith, a.count))

      pub collect_part : {w' : List ℕ} → Moves part × (w' ≡ w) → length w' ≡ length w → Collecting f last at r₀ r' w₀ w' t.next t.next (k + 1) depth
      collect_part {w'} y l =
          let due : stack_of w' depth ≡ [] = ap (λ (x : List ℕ). stack_of x depth) y.1 ∙ part_due (view (item_of s b t)) (stack_of w depth) y.0 in
          record {
            done = a.done ++ a.current ∷ [];
            current = [];
            whole =
                collect_after part z.tokens y.0
                ∙ (gathered_split a.done a.current (collect (f t.next) [])
                ∙ ap (λ (x : List ℕ). gathered (a.done ++ a.current ∷ []) [] (collect (f t.next) x)) (sym due));
            spans = none;
            count = counted;
            ranged = noted;
            unplaced = still;
            deep = omega (arith, a.deep, z.past);
            many = omega (arith, a.many, z.past);
            within = z.within;
            same_ranges = ap length v ∙ (length-set r k (from ∷ i ∷ 1 ∷ 0 ∷ []) ∙ a.same_ranges);
            same_stack = l ∙ a.same_stack;
          }

      pub collect_close : Moves close → Lists (collect (f at) []) f last r' (k + 1) t.next
      collect_close e = lists_whole a.done a.current (collect_after close z.tokens e) counted noted still z.within
