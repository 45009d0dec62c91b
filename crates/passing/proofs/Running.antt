-- The expansion of a pending list whose usages are good: what can stop it, and how deep it goes.
-- Assumes nothing.
use Prim.Native.Nat.{ℕ, zero, suc, ◌+◌, ◌<◌, ◌≤◌}
use native.Mathlib.Omega.{arith}
use mathlib.Core.Path.{◌≡◌, refl, sym, ap, ◌∙◌, subst}
use mathlib.Core.Bool.{Bool, true, false}
use mathlib.Core.Logic.{◌⊎◌, inl, inr}
use mathlib.Core.Option.{some}
use mathlib.Core.List.Memᴰ.{head as first}
use mathlib.Core.List.Memᴰ.{tail as later}
use mathlib.Core.List.{List, [], ◌∷◌, ◌++◌, Memᴰ as In}
use lib.Dec.{eqb, ltb}
use lib.ListN.{length}
use Rattle.lex.specs.Tokens.{in_text, String, tokens}
use Rattle.lex.specs.declared.Token.{Token}
use Rattle.lex.proofs.Tests.{by_test, true_false}
use Rattle.definition.specs.Definitions.{Parameter, Macro, macro}
use Rattle.sets.specs.Sets.{elem, insert_asc}
use Rattle.store.specs.Stores.{macro_text, macro_at, find}
use Rattle.std.proofs.Common.{Result, Ok, Err}
use Rattle.store.proofs.Ordering.{find_at_lt}
use Rattle.writing.specs.Written.{Written, placed, map_of, Room, Put, full, fitted, put_in}
use Rattle.pending.specs.Pending.{Pending, text_token, text_tokens, View, calls, is_comment, is_call, view}
use Rattle.pending.proofs.Viewing.{by_usage}
use Rattle.arguments.specs.Arguments.{Args, bad, args, seek}
use Rattle.replace.specs.Tidying.{cleaned, tidy_all}
use Rattle.replace.specs.Replacing.{value, in_place, Got, got, refused, enough, Listed, barred, listed, accepted, list_for, with_list, replace_by, replace_at, replace, deepest}
use Rattle.expand.specs.Expanding.{Outer, writes, Expansion, ends, Next, on_got, on_put, walk, onward}
use Rattle.passing.specs.Passing.{formals_of, used_by, uses_of, uses_in, uses, yes, pass_of}
use Rattle.passing.specs.Chains.{chain}
use Rattle.passing.specs.Meeting.{Soft, whole, pending_list, limit, text_room, map_room}
use Rattle.passing.proofs.Lists.{views}
use Rattle.passing.proofs.Reading.{Sized, sized, Sought, sought_of, seek_listed}
use Rattle.passing.proofs.Trimming.{view_cleaned}
use Rattle.passing.proofs.Good.{Needs, needs_none, needs_list, Good, Fine, fine_call, fine_plain, fine_tail}
use Rattle.passing.proofs.Placing.{view_text, views_text, All, all_nil, all_cons, value_holds}
use Rattle.passing.proofs.Keeping.{Lasting, all_append, Val, Taken, Sound, taken_sought, vals_tidy, defaults_of, fine_placed, each_placed}
use Rattle.passing.proofs.Chains.{sound_of, chain_falls, chain_some}
use Rattle.passing.proofs.Members.{insert_length, insert_elem}

-- not refused but for want of room, the pending list or the limit; no token comes out of more than h texts
pub record Calm (h : ℕ) (e : Expansion) : Type 0 where
  pub stopped : Soft e.stop
  pub deep : e.depth ≤ h

-- the set of a usage of macro i: with the longest chain from i within h, and each member's chain longer
pub record Under (ms : List Macro) (h i : ℕ) (s : List ℕ) : Type 0 where
  pub within : length s + chain ms i ≤ h
  pub above : (m : ℕ) → elem m s ≡ true → chain ms i < chain ms m

pub record High (ms : List Macro) (h : ℕ) (p : Pending) : Type 0 where
  pub small : length p.own ≤ h
  pub used : (w : List ℕ) (i : ℕ) → view p ≡ calls w → find w ms ≡ Ok i → Under ms h i p.own

-- a pending list
pub record Ready (ms : List Macro) (h : ℕ) (ps : List Pending) : Type 0 where
  pub fine : Fine ms (views ps)
  pub each : All (High ms h) ps

pub no_call : {A : Type 0} (v : View) (w : List ℕ) → v ≡ calls w → is_call v ≡ false → A
no_call v w e d = true_false (is_call v) (ap is_call e) d

own_cleaned : (p : Pending) → (cleaned p).own ≡ p.own
own_cleaned p =
    by_test (λ (q : Pending). q.own ≡ p.own) (is_comment p.kind) (λ e. refl)
    (λ e. by_test (λ (q : Pending). q.own ≡ p.own) (eqb p.kind String) (λ e. refl) (λ e. refl))

-- ---- writing

data Putting : Put → Type 0 where
  fills : {n : ℕ} → Soft n → Putting (full n)
  fits : {r : Room} → Putting (fitted r)

put_soft : (r : Room) (ws : List Written) → Putting (put_in r ws)
unfolding put_in
put_soft r ws =
    by_test Putting (ltb r.bytes (length ws)) (λ e. fills text_room)
    (λ e. by_test Putting (ltb r.lines (length (map_of r.fresh ws))) (λ e. fills map_room) (λ e. fits))

calm_ends : {h n : ℕ} (i : ℕ) (r : Room) → Soft n → Calm h (ends n i r)
calm_ends i r s = record { stopped = s; deep = omega arith }

put_calm : {h : ℕ} (ws : List Written) (r : Room) (go : Room → Expansion) → ((r' : Room) → Calm h (go r')) → (x : Put) → Putting x
    → Calm h (on_put ws r x go)
put_calm ws r go k (full n) (fills s) = calm_ends 0 r s
put_calm ws r go k (fitted r') fits = record { stopped = (k r').stopped; deep = (k r').deep }

-- the tokens of a macro's text, with a set
abbrev pub text_of : List ℕ → Macro → List Pending
text_of set m = text_tokens (macro_text m) set (tokens in_text (macro_text m) 0)

module _ (ms : List Macro) (h : ℕ) where
  clean_high : Lasting (High ms h)
  clean_high p u k =
      record {
        small = subst (λ (s : List ℕ). length s ≤ h) (sym (own_cleaned p)) k.small;
        used = λ w i q f. subst (λ (s : List ℕ). Under ms h i s) (sym (own_cleaned p)) (k.used w i (sym (view_cleaned p u) ∙ q) f);
      }

  not_elem : (i : ℕ) (s : List ℕ) → Under ms h i s → elem i s ≡ false
  not_elem i s u = go (elem i s) refl
    where
      go : (b : Bool) → elem i s ≡ b → elem i s ≡ false
      go true e = let k : chain ms i < chain ms i = u.above i e in absurd (omega arith)
      go false e = e

  deepest_high : (q : List Pending) → All (High ms h) q → deepest q ≤ h
  unfolding deepest
  deepest_high [] all_nil = omega arith
  deepest_high (p ∷ q) (all_cons x a) = let b : length p.own ≤ h = x.small in let c : deepest q ≤ h = deepest_high q a in omega arith

  -- ---- what a usage is replaced by

  -- not refused, and ready with what follows it
  pub data Going (after : List Pending) : Got → Type 0 where
    going : {q rest : List Pending} → All (High ms h) q → Ready ms h (q ++ after) → Going after (got q rest)

  -- .. with what follows it in the list
  data Gone : Got → Type 0 where
    gone : {q rest : List Pending} → Going rest (got q rest) → Gone (got q rest)

  -- what its list gives
  data Given : Listed → Type 0 where
    given : {xs : List (List Pending)} {r : List Pending} → All (λ x. Val ms (High ms h) [] x) xs → Ready ms h r → Given (listed xs r)

  given_sized : (fs : List Parameter) (ps : List Pending) {n : ℕ} (g : Args) → Sized g n → Sought ps g → enough fs n ≡ true → Ready ms h ps
      → Given (accepted fs g)
  given_sized fs ps (args a xs r) (sized e) s k f =
      let t : Taken ms (High ms h) [] a xs r = taken_sought ms (High ms h) s f.fine f.each in
      by_test Given (enough fs (length (a ∷ xs)))
      (λ d. given (all_cons t.first t.others) (record { fine = t.rest_fine; each = t.rest_each }))
      (λ d. true_false (enough fs (length (a ∷ xs))) (subst (λ (n : ℕ). enough fs n ≡ true) (sym e) k) d)
  given_sized fs ps (bad _ _) h s k f = elim h [ ]

  given_for : (fs : List Parameter) (ps : List Pending) → Needs fs (views ps) → Ready ms h ps → Given (list_for fs ps)
  given_for [] ps needs_none f = given all_nil f
  given_for (x ∷ fs) ps (needs_list n l e) f = given_sized (x ∷ fs) ps (seek ps) (seek_listed ps l) (sought_of ps) e f

  -- a usage is replaced by its macro, which is not in its set
  pub replaced_by : (w s : List ℕ) (ps : List Pending) (i : ℕ) (P : Got → Type 0) → find w ms ≡ Ok i → Under ms h i s
      → P (replace_by (macro_at ms i) (insert_asc i s) ps) → P (replace ms w s ps)
  unfolding replace
  replaced_by w s ps i P e u k =
      subst (λ (f : Result ℕ ℕ). P (replace_at f ms s ps)) (sym e) (by_test P (elem i s) (λ d. true_false (elem i s) d (not_elem i s u)) (λ d. k))

  module _ (pass : pass_of ms ≡ yes) (sound : (i : ℕ) → Sound (formals_of (macro_at ms i))) where
    -- a usage of macro i, whose set is s
    module _ (i : ℕ) (s : List ℕ) (stored : i < length ms) (u : Under ms h i s) where
      small_set : length (insert_asc i s) ≤ h
      small_set =
          let a : length s + chain ms i ≤ h = u.within in
          let b : 1 ≤ chain ms i = chain_some ms pass i stored in
          let c : length (insert_asc i s) ≤ suc (length s) = insert_length i s in
          omega arith

      small_own : (p : Pending) → p.own ≡ insert_asc i s → length p.own ≤ h
      small_own p o = subst (λ (z : List ℕ). length z ≤ h) (sym o) small_set

      plain_high : (p : Pending) → p.own ≡ insert_asc i s → is_call (view p) ≡ false → High ms h p
      plain_high p o e = record { small = small_own p o; used = λ w j q f. no_call (view p) w q e }

      used_under : (j : ℕ) → In j (uses ms i) → Under ms h j (insert_asc i s)
      used_under j m =
          let f : chain ms j < chain ms i = chain_falls ms pass i j stored m in
          let a : length s + chain ms i ≤ h = u.within in
          let c : length (insert_asc i s) ≤ suc (length s) = insert_length i s in
          record { within = omega arith; above = λ k e. go k (insert_elem k i s e) }
        where
          go : (k : ℕ) → (k ≡ i) ⊎ (elem k s ≡ true) → chain ms j < chain ms k
          go k (inl q) = subst (λ (z : ℕ). chain ms j < chain ms z) (sym q) (chain_falls ms pass i j stored m)
          go k (inr e) = let f : chain ms j < chain ms i = chain_falls ms pass i j stored m in let g : chain ms i < chain ms k = u.above k e in omega arith

      token_high : (p : Pending) (r : List ℕ) → p.own ≡ insert_asc i s → (v : View) → view p ≡ v
          → ((j : ℕ) → In j (uses_of v ms r) → In j (uses ms i)) → High ms h p
      token_high p r o v e =
          by_usage (λ (l : List ℕ). ((j : ℕ) → In j l → In j (uses ms i)) → High ms h p) v (λ c k. plain_high p o (ap is_call e ∙ c))
          (λ w c k. record { small = small_own p o; used = λ x j q f. subst (λ (z : List ℕ). Under ms h j z) (sym o) (used_under j (k j (named w x j (e ∙ c) q f))) })
        where
          named : (w x : List ℕ) (j : ℕ) → view p ≡ calls w → view p ≡ calls x → find x ms ≡ Ok j → In j (used_by (find w ms) r)
          named w x j c q f =
              let y : x ≡ w = cc in
              subst (λ (z : Result ℕ ℕ). In j (used_by z r)) (sym (ap (λ (z : List ℕ). find z ms) (sym y) ∙ f)) (first refl)

      used_more : (f : Result ℕ ℕ) (r : List ℕ) (j : ℕ) → In j r → In j (used_by f r)
      used_more (Ok k) r j m = later m
      used_more (Err k) r j m = m

      uses_more : (v : View) (r : List ℕ) (j : ℕ) → In j r → In j (uses_of v ms r)
      uses_more v r j m = by_usage (λ (l : List ℕ). In j l) v (λ c. m) (λ w c. used_more (find w ms) r j m)

      text_high : (t : List ℕ) (ts : List Token) → ((j : ℕ) → In j (uses_in ms (text_tokens t [] ts)) → In j (uses ms i))
          → All (High ms h) (text_tokens t (insert_asc i s) ts)
      unfolding uses_in text_tokens
      text_high t [] k = all_nil
      text_high t (x ∷ ts) k =
          let v : View = view (text_token t [] x) in
          let r : List ℕ = uses_in ms (text_tokens t [] ts) in
          all_cons (token_high (text_token t (insert_asc i s) x) r refl v (view_text t (insert_asc i s) x) k) (text_high t ts (λ j m. k j (uses_more v r j m)))

      -- the macro's own part
      pub record Part (m : Macro) : Type 0 where
        pub defaults : Sound (formals_of m)
        pub text : Ready ms h (text_of (insert_asc i s) m)

      pub part_of : Part (macro_at ms i)
      part_of =
          let t : List ℕ = macro_text (macro_at ms i) in
          record {
            defaults = sound i;
            text = record {
              fine = subst (Fine ms) (sym (views_text t (insert_asc i s) (tokens in_text t 0))) (sound_of ms i pass stored).text;
              each = text_high t (tokens in_text t 0) (λ j m. m);
            };
          }

      -- what is put in
      pub put-in : (fs : List Parameter) (ps : List Pending) (xs : List (List Pending)) (after rest : List Pending) → Sound fs → Ready ms h ps
          → All (λ x. Val ms (High ms h) [] x) xs → Ready ms h after → Going after (got (in_place (value (insert_asc i s) fs (tidy_all xs)) ps) rest)
      put-in fs ps xs after rest d t vs a =
          let f = value (insert_asc i s) fs (tidy_all xs) in
          let ok : (w : List ℕ) (x : List Pending) → f w ≡ some x → Val ms (High ms h) [] x =
          value_holds (λ x. Val ms (High ms h) [] x) (insert_asc i s) (defaults_of ms (High ms h) (insert_asc i s) plain_high d)
          (vals_tidy ms (High ms h) clean_high vs) in
          let e : All (High ms h) (in_place f ps) = each_placed ms (High ms h) f ok ps t.each in
          going e (record { fine = fine_placed ms (High ms h) f ok ps after t.fine a.fine; each = all_append e a.each })

      list_gone : (n : List ℕ) (fs : List Parameter) (t : List ℕ) → Part (macro n fs t) → (l : Listed) → Given l → Gone (with_list (insert_asc i s) fs t l)
      list_gone n fs t p (listed xs r) (given vs a) = gone (put-in fs (text_of (insert_asc i s) (macro n fs t)) xs r r p.defaults p.text vs a)
      list_gone n fs t p (barred _ _) h = elim h [ ]

      macro_gone : (m : Macro) → Part m → (ps : List Pending) → Needs (formals_of m) (views ps) → Ready ms h ps → Gone (replace_by m (insert_asc i s) ps)
      macro_gone (macro n fs t) p ps k f = list_gone n fs t p (list_for fs ps) (given_for fs ps k f)

    replace_gone : (p : Pending) (w : List ℕ) (ps : List Pending) → view p ≡ calls w → Ready ms h (p ∷ ps) → Gone (replace ms w p.own ps)
    replace_gone p w ps e f = go f.fine f.each
      where
        go : Fine ms (view p ∷ views ps) → All (High ms h) (p ∷ ps) → Gone (replace ms w p.own ps)
        go (fine_call {w = v} d g₁ k) (all_cons x a) =
            let q : v ≡ w = cc in
            let g : Good ms w (views ps) = subst (λ (z : List ℕ). Good ms z (views ps)) q g₁ in
            let i : ℕ = g.number in
            let u : Under ms h i p.own = x.used w i e g.stored in
            let l : i < length ms = find_at_lt w ms g.stored in
            replaced_by w p.own ps i Gone g.stored u
            (macro_gone i p.own l u (macro_at ms i) (part_of i p.own l u) ps g.list (record { fine = k; each = a }))
        go (fine_plain d k) a = no_call (view p) w e d

    -- ---- the pending list

    module _ (next : Next) (ih : (q rest : List Pending) (r : Room) → All (High ms h) q → Ready ms h (q ++ rest) → Calm h (next q rest r)) (o : Outer) where
      got_calm : (r : Room) (g : Got) → Gone g → Calm h (on_got next r g)
      got_calm r (got q rest) (gone (going a k)) = ih q rest r a k
      got_calm r (refused _ _) h = elim h [ ]

      walk_calm : (ps : List Pending) (r : Room) → Fine ms (views ps) → All (High ms h) ps → Calm h (walk next o ms r ps)
      unfolding walk
      walk_calm [] r f a = calm_ends 0 r whole
      walk_calm (p ∷ ps) r f (all_cons x a) =
          let ws : List Written = placed 0 o.place (writes o p) in
          by_usage (Calm h) (view p)
          (λ c. put_calm ws r (λ r'. walk next o ms r' ps) (λ r'. walk_calm ps r' (fine_tail f) a) (put_in r ws) (put_soft r ws))
          (λ w c. got_calm r (replace ms w p.own ps) (replace_gone p w ps c (record { fine = f; each = all_cons x a })))

    pub onward_calm : (n : ℕ) (o : Outer) (q rest : List Pending) (r : Room) → All (High ms h) q → Ready ms h (q ++ rest) → Calm h (onward n o ms q rest r)
    unfolding onward
    onward_calm zero o q rest r a k = calm_ends 0 r limit
    onward_calm (suc n) o q rest r a k =
        let c : Calm h (walk (onward n o ms) o ms r (q ++ rest)) = walk_calm (onward n o ms) (onward_calm n o) o (q ++ rest) r k.fine k.each in
        let d : deepest q ≤ h = deepest_high q a in
        let e : (walk (onward n o ms) o ms r (q ++ rest)).depth ≤ h = c.deep in
        by_test (Calm h) (ltb 1024 (length (q ++ rest))) (λ z. calm_ends 0 r pending_list) (λ z. record { stopped = c.stopped; deep = omega arith })
