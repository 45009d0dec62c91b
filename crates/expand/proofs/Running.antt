-- Expanding step by step: a pending token written or replaced, and how it all ends from there.
-- Assumes nothing.
use Prim.Native.Nat.{ℕ, zero, suc, max, ◌+◌, ◌-◌, ◌<◌, ◌≤◌}
use mathlib.Core.Bool.{Bool, true, false}
use mathlib.Core.List.{List, [], ◌∷◌, ◌++◌}
use mathlib.Core.Path.{◌≡◌, refl, sym, ap, ◌∙◌}
use native.Mathlib.Nat.{add-zero, add_assoc, max-zero, le_of_suc-le-suc, not-suc-le-zero}
use native.Mathlib.Omega.{arith}
use lib.Dec.{leb}
use lib.ListN.{length, get_or, length-append}
use borrow.Author.Tests.{le-ltb, leb-true, leb-false}
use Rattle.lex.specs.Tokens.{in_file}
use Rattle.lex.proofs.Progress.{token-at}
use Rattle.definition.specs.Definitions.{Parameter, Macro, macro}
use Rattle.sets.specs.Sets.{elem, insert_asc, members}
use Rattle.store.specs.Stores.{macro_text, find, macro_at}
use Rattle.store.specs.Buffers.{Holds, Stored}
use Rattle.writing.specs.Written.{Written, placed, text_of, map_of, fresh_after, Room, Put, full, fitted, put_in}
use Rattle.writing.specs.Buffers.{room_of, Puts as Written-by, WroteBy}
use Rattle.writing.specs.declared.Spot.{Spot}
use Rattle.writing.specs.declared.Wrote.{Wrote}
use Rattle.writing.specs.declared.Wrote.TheVariants as wrote
use Rattle.writing.proofs.Laws.{text_length, text_append, fresh_append, map_append, sets_append, puts_text, puts_map}
use Rattle.pending.specs.declared.Pend.{Pend}
use Rattle.pending.specs.Pending.{Pending, file_from, View, calls, is_call, view, on_usage}
use Rattle.pending.specs.References.{pending_by, pend_of, blank, stacked}
use Rattle.pending.specs.Sources.{items_from}
use Rattle.pending.proofs.Seeing.{from_out, from_more}
use Rattle.pending.proofs.Viewing.{not_usage}
use Rattle.lex.specs.declared.Fault.{Fault}
use Rattle.arguments.specs.Ranges.{Ranged}
use Rattle.packed.specs.Records.{blank_record, RecordIs}
use Rattle.packed.specs.declared.Record.{Record}
use Rattle.replace.specs.Tidying.{tidy_all}
use Rattle.replace.specs.Placing.{MacroIn, UsageIn}
use Rattle.replace.specs.Replacing.{Listed, list_for, with_list, text_with, Got, refused, got, replace_by, replace, deepest}
use Rattle.std.proofs.Common.{Result, Ok, Err}
use Rattle.expand.specs.declared.Stand.{Stand}
use Rattle.expand.specs.declared.Turn.{Turn}
use Rattle.expand.specs.declared.Turn.TheVariants as turn
use Rattle.expand.specs.declared.Expanded.{Expanded}
use Rattle.expand.specs.Expanding.{Outer, Expansion, ends, writing, replacing, Next, on_got, on_put, writes, walk, onward, first, goes_on, expand}
use Rattle.expand.specs.Standing.{Within, CalledBy, Accepts, AcceptedBy, left_of, replaced_to, written_to, Puts, PutBy, ReplacedBy, rest_of, stopped_at, Final, finish, Stands, weight_of, Goes, SteppedBy, Ends, Expands}
use Rattle.expand.proofs.Calling.{formals_of, macro_in}
use Rattle.expand.proofs.Naming.{usage_view}

-- ---- the walk over the pending list

module _ (go : Next) (o : Outer) (ms : List Macro) (r : Room) where
  module _ (p : Pending) (ps : List Pending) where
    walk_write : is_call (view p) ≡ false
        → walk go o ms r (p ∷ ps) ≡ on_put (placed 0 o.place (writes o p)) r (put_in r (placed 0 o.place (writes o p))) (λ r'. walk go o ms r' ps)
    unfolding walk
    walk_write q = not_usage (view p) _ _ q

    walk_put : (r' : Room) → is_call (view p) ≡ false → put_in r (placed 0 o.place (writes o p)) ≡ fitted r'
        → walk go o ms r (p ∷ ps) ≡ writing (placed 0 o.place (writes o p)) (walk go o ms r' ps)
    walk_put r' q f =
        walk_write q ∙ ap (λ (x : Put). on_put (placed 0 o.place (writes o p)) r x (λ r'. walk go o ms r' ps)) f

    walk_full : (k : ℕ) → is_call (view p) ≡ false → put_in r (placed 0 o.place (writes o p)) ≡ full k
        → walk go o ms r (p ∷ ps) ≡ ends k 0 r
    walk_full k q f =
        walk_write q ∙ ap (λ (x : Put). on_put (placed 0 o.place (writes o p)) r x (λ r'. walk go o ms r' ps)) f

    walk_call : (w : List ℕ) → view p ≡ calls w → walk go o ms r (p ∷ ps) ≡ on_got go r (replace ms w p.own ps)
    unfolding walk
    walk_call w q =
        ap (λ (v : View). on_usage v (on_put (placed 0 o.place (writes o p)) r (put_in r (placed 0 o.place (writes o p))) (λ r'. walk go o ms r' ps)) (λ w. on_got go r (replace ms w p.own ps))) q

onward_more : (n : ℕ) (o : Outer) (ms : List Macro) (q rest : List Pending) (r : Room) → length (q ++ rest) ≤ 1024
    → onward (suc n) o ms q rest r ≡ replacing (deepest q) (walk (onward n o ms) o ms r (q ++ rest))
unfolding onward
onward_more n o ms q rest r h = rw (le-ltb 1024 (length (q ++ rest)) h)

onward_allowed : (limit n : ℕ) (o : Outer) (ms : List Macro) (q rest : List Pending) (r : Room) → n < limit → length (q ++ rest) ≤ 1024
    → onward (limit - n) o ms q rest r ≡ replacing (deepest q) (walk (onward (limit - (n + 1)) o ms) o ms r (q ++ rest))
onward_allowed limit n o ms q rest r h f =
    let g : limit - n ≡ suc (limit - (n + 1)) = omega arith in
    rw g (onward_more (limit - (n + 1)) o ms q rest r f)

-- ---- how it all ends

module _ (next : ℕ) (text map : List ℕ) (z : Stand) where
  finish_ends : (k p : ℕ) (r : Room) → finish next text map z (ends k p r) ≡ record { answer = stopped_at k p next z; text = text; map = map }
  unfolding text_of map_of fresh_after
  finish_ends k p r =
      rw (add-zero z.count, max-zero z.deepest, add-zero z.spot.written, add-zero z.spot.lines)

  finish_writing : (ws : List Written) (e : Expansion) (text' map' : List ℕ) (y : Spot) → Written-by ws text text' map map' z.spot y
      → finish next text map z (writing ws e) ≡ finish next text' map' (written_to z y) e
  finish_writing ws e text' map' y p =
      rw (p.spot, p.bytes, p.lines)
      (simp (length-append, map_append, fresh_append, add_assoc, text_append, sets_append, text_length))

  finish_replacing : (n d : ℕ) (e : Expansion) → finish next text map z (replacing d e) ≡ finish next text map (replaced_to z n d) e
  finish_replacing n d e =
      let a : z.count + suc e.count ≡ z.count + 1 + e.count = omega arith in
      let b : max z.deepest (max d e.depth) ≡ max (max z.deepest d) e.depth = omega arith in
      rw (a, b)

-- a usage replaced, and what follows it ends as from the stand then
finish_onward : (next : ℕ) (o : Outer) (ms : List Macro) (s b : List ℕ) (l' : List (List ℕ)) (q rest : List Pending) (limit : ℕ) (text map : List ℕ) (z z' : Stand)
    → Puts s b l' q rest limit z z'
    → finish next text map z (onward (left_of limit z) o ms q rest (room_of (length text) (length map) z.spot)) ≡
    finish next text map z' (rest_of o ms s b l' limit text map z')
finish_onward next o ms s b l' q rest limit text map z z' u =
    rw (u.stand, u.tokens, onward_allowed limit z.count o ms q rest (room_of (length text) (length map) z.spot) u.allowed u.few)
    (finish_replacing next text map z (length (q ++ rest)) (deepest q) (walk (onward (limit - (z.count + 1)) o ms) o ms (room_of (length text) (length map) z.spot) (q ++ rest)))

-- what ends as another does has its answer, text and map
ends_same : {next : ℕ} {text text₁ text' map map₁ map' : List ℕ} {y z : Stand} {e f : Expansion} {r : Expanded} → finish next text map z e ≡ finish next text₁ map₁ y f
    → Ends next text₁ text' map₁ map' y f r → Ends next text text' map map' z e r
ends_same g h = record {
  answer = h.answer ∙ sym (ap (λ (v : Final). v.answer) g);
  text_is = h.text_is ∙ sym (ap (λ (v : Final). v.text) g);
  map_is = h.map_is ∙ sym (ap (λ (v : Final). v.map) g);
}

ends_stopped : (next : ℕ) (text map : List ℕ) (z : Stand) (e : Expansion) (k p : ℕ) (room : Room) {r : Expanded} → e ≡ ends k p room → r ≡ stopped_at k p next z
    → Ends next text text map map z e r
ends_stopped next text map z e k p room q a =
    let g : finish next text map z e ≡ record { answer = stopped_at k p next z; text = text; map = map } =
    ap (λ (u : Expansion). finish next text map z u) q ∙ finish_ends next text map z k p room in
    record {
      answer = a ∙ sym (ap (λ (v : Final). v.answer) g);
      text_is = sym (ap (λ (v : Final). v.text) g);
      map_is = sym (ap (λ (v : Final). v.map) g);
    }

-- ---- one step

-- an element within a list, whatever stands for those past its end
any_default : {A : Type 0} (l : List A) (i : ℕ) (d e : A) → i < length l → get_or l i d ≡ get_or l i e
any_default [] i d e h = absurd (not-suc-le-zero h)
any_default (a ∷ l) zero d e h = refl
any_default (a ∷ l) (suc i) d e h = any_default l i d e (le_of_suc-le-suc h)

stacked_top : (s b : List ℕ) (l : List (List ℕ)) (n : ℕ) (p : Pend) → 0 < n → n ≤ length l → p ≡ pend_of (get_or l (n - 1) [])
    → stacked s b l n ≡ pending_by s b p ∷ stacked s b l (n - 1)
unfolding stacked
stacked_top s b l zero p h f e = absurd (omega arith)
stacked_top s b l (suc n) p h f e =
    let i : suc n - 1 ≡ n = omega arith in
    rw (e, i, any_default l n [] blank (omega arith))

module _ (o : Outer) (ms : List Macro) (s b : List ℕ) (l : List (List ℕ)) (limit : ℕ) (text map : List ℕ) (z : Stand) where
  abbrev room : Room
  room = room_of (length text) (length map) z.spot

  pub step_none : z.depth ≡ 0 → rest_of o ms s b l limit text map z ≡ ends 0 0 room
  unfolding stacked walk
  step_none e = rw e

  module _ (p : Pend) (some : 0 < z.depth) (few : z.depth ≤ 1024) (lent : 1024 ≤ length l) (top : p ≡ pend_of (get_or l (z.depth - 1) [])) where
    rest_top : rest_of o ms s b l limit text map z ≡ walk (onward (left_of limit z) o ms) o ms room (pending_by s b p ∷ stacked s b l (z.depth - 1))
    rest_top = ap (λ (ps : List Pending). walk (onward (left_of limit z) o ms) o ms room ps) (stacked_top s b l z.depth p some (omega arith) top)

    abbrev spelt : List Written
    spelt = placed 0 o.place (writes o (pending_by s b p))

    module _ (other : is_call (view (pending_by s b p)) ≡ false) where
      pub step_full : {w : Wrote} {k : ℕ} {text' map' : List ℕ} → w ≡ wrote.Full k → WroteBy w spelt text text' map map' z.spot
          → (rest_of o ms s b l limit text map z ≡ ends k 0 room) × (text' ≡ text) × (map' ≡ map)
      step_full {w} {k} {text'} {map'} q h =
          let f : WroteBy (wrote.Full k) spelt text text' map map' z.spot = rw q at h in
          (rest_top ∙ walk_full (onward (left_of limit z) o ms) o ms room (pending_by s b p) (stacked s b l (z.depth - 1)) k other f.0, f.1, f.2)

      pub step_wrote : {w : Wrote} {y : Spot} {text' map' : List ℕ} {z' : Stand} → w ≡ wrote.Upto y → WroteBy w spelt text text' map map' z.spot → z' ≡ written_to z y
          → Goes o ms s b l l limit text text' map map' z z'
      step_wrote {w} {y} {text'} {map'} {z'} q h e =
          let f : WroteBy (wrote.Upto y) spelt text text' map map' z.spot = rw q at h in
          let t : length text' ≡ length text = puts_text f.0 in
          let m : length map' ≡ length map = puts_map f.0 in
          let r : Room = room_of (length text) (length map) y in
          let rest : Expansion = walk (onward (left_of limit z) o ms) o ms r (stacked s b l (z.depth - 1)) in
          let a : rest_of o ms s b l limit text map z ≡ writing spelt rest =
          rest_top ∙ walk_put (onward (left_of limit z) o ms) o ms room (pending_by s b p) (stacked s b l (z.depth - 1)) r other f.1 in
          rw e (record {
            same_end = λ next. ap (λ (x : Expansion). finish next text map z x) a ∙ finish_writing next text map z spelt rest text' map' y f.0 ∙ rw (t, m);
            less = omega arith;
            stands = record { few = omega arith; spot = record { in_text = omega (arith, f.2, t); in_map = omega (arith, f.3, m) } };
          })

    module _ (usage : is_call (view (pending_by s b p)) ≡ true) (inside : Stands text map z) {w : List ℕ} (name : w ≡ (pending_by s b p).name) where
      rest_usage : rest_of o ms s b l limit text map z ≡ on_got (onward (left_of limit z) o ms) room (replace ms w (members p.set) (stacked s b l (z.depth - 1)))
      unfolding pending_by
      rest_usage =
          rest_top ∙ walk_call (onward (left_of limit z) o ms) o ms room (pending_by s b p) (stacked s b l (z.depth - 1)) w (usage_view s b p usage ∙ ap calls (sym name))

      pub step_replaced : (r : Turn) (l' : List (List ℕ)) → ReplacedBy r s b l' (replace ms w (members p.set) (stacked s b l (z.depth - 1))) ms limit z
          → SteppedBy r o ms s b l l' limit text text map map z
      step_replaced (turn.Ended k i) l' h = (rest_usage ∙ h o room, refl, refl)
      step_replaced (turn.On z') l' h =
          let u : Puts s b l' h.new h.rest limit z z' = h.puts in
          let a : rest_of o ms s b l limit text map z ≡ onward (left_of limit z) o ms h.new h.rest room =
          rest_usage ∙ ap (λ (x : Got). on_got (onward (left_of limit z) o ms) room x) h.shape in
          let less : weight_of limit (replaced_to z (length (h.new ++ h.rest)) (deepest h.new)) < weight_of limit z = omega (arith, u.allowed, u.few) in
          record {
            same_end = λ next. ap (λ (x : Expansion). finish next text map z x) a ∙ finish_onward next o ms s b l' h.new h.rest limit text map z z' u;
            less = rw u.stand less;
            stands = rw u.stand (record { few = u.few; spot = inside.spot });
          }

-- ---- the run

-- what is lent keeps its lengths
pub record Kept (l₀ l o₀ o r₀ r : List (List ℕ)) (k₀ k w₀ w t₀ t m₀ m : List ℕ) : Type 0 where
  pub list : length l ≡ length l₀
  pub out : length o ≡ length o₀
  pub ranges : length r ≡ length r₀
  pub stack : length k ≡ length k₀
  pub work : length w ≡ length w₀
  pub text : length t ≡ length t₀
  pub map : length m ≡ length m₀

pub kept_more : {l₀ l l' o₀ o o' r₀ r r' : List (List ℕ)} {k₀ k k' w₀ w w' t₀ t t' m₀ m m' : List ℕ} → Kept l₀ l o₀ o r₀ r k₀ k w₀ w t₀ t m₀ m
    → length l' ≡ length l → length o' ≡ length o → length r' ≡ length r → length k' ≡ length k → length w' ≡ length w → length t' ≡ length t → length m' ≡ length m
    → Kept l₀ l' o₀ o' r₀ r' k₀ k' w₀ w' t₀ t' m₀ m'
kept_more h a b c d e f g =
    record { list = a ∙ h.list; out = b ∙ h.out; ranges = c ∙ h.ranges; stack = d ∙ h.stack; work = e ∙ h.work; text = f ∙ h.text; map = g ∙ h.map }

-- from z on it ends as it does from z₀ on
pub record Runs (next : ℕ) (o : Outer) (s b : List ℕ) (r : List (List ℕ)) (n limit : ℕ) (l₀ l : List (List ℕ)) (text₀ text map₀ map : List ℕ) (z₀ z : Stand) : Type 0 where
  pub inside : Stands text map z
  pub same_end :
      (ms : List Macro) → Holds ms b r n → finish next text₀ map₀ z₀ (rest_of o ms s b l₀ limit text₀ map₀ z₀) ≡
      finish next text map z (rest_of o ms s b l limit text map z)

module _ {o : Outer} {s b : List ℕ} {r : List (List ℕ)} {n limit : ℕ} where
  pub runs_none : {next : ℕ} {l : List (List ℕ)} {text map : List ℕ} {z : Stand} → Stands text map z → Runs next o s b r n limit l l text text map map z z
  runs_none h = record { inside = h; same_end = λ ms k. refl }

  module _ {next : ℕ} {l₀ l : List (List ℕ)} {text₀ text map₀ map : List ℕ} {z₀ z : Stand} (h : Runs next o s b r n limit l₀ l text₀ text map₀ map z₀ z) (t : Turn) (l' : List (List ℕ)) (text' map' : List ℕ) where
    module _ (stored : Stored b r n) {y : Stand} (on : t ≡ turn.On y) (steps : (ms : List Macro) → Holds ms b r n → SteppedBy t o ms s b l l' limit text text' map map' z) where
      goes : (ms : List Macro) → Holds ms b r n → Goes o ms s b l l' limit text text' map map' z y
      goes ms k = rw on at (steps ms k)

      pub runs_less : weight_of limit y < weight_of limit z
      runs_less = (goes stored.macros stored.holds).less

      pub runs_more : Runs next o s b r n limit l₀ l' text₀ text' map₀ map' z₀ y
      runs_more =
          record { inside = (goes stored.macros stored.holds).stands; same_end = λ ms k. h.same_end ms k ∙ (goes ms k).same_end next }

    pub runs_all : {k p : ℕ} → t ≡ turn.Ended k p → {x : Expanded} → x ≡ stopped_at k p next z → (ms : List Macro) → Holds ms b r n
        → SteppedBy t o ms s b l l' limit text text' map map' z → Ends next text₀ text' map₀ map' z₀ (rest_of o ms s b l₀ limit text₀ map₀ z₀) x
    runs_all {k} {p} e a ms q i =
        let f : SteppedBy (turn.Ended k p) o ms s b l l' limit text text' map map' z = rw e at i in
        rw (f.1, f.2)
        (ends_same (h.same_end ms q) (ends_stopped next text map z (rest_of o ms s b l limit text map z) k p (room_of (length text) (length map) z.spot) f.0 a))

-- ---- the usage in the file

replace_parts : (m : Macro) (set : List ℕ) (ps : List Pending) → replace_by m set ps ≡ with_list set (formals_of m) (macro_text m) (list_for (formals_of m) ps)
replace_parts (macro nm fs t) set ps = refl

-- the file goes on where the list ends
goes_on_lem : (s : List ℕ) (q : List Pending) (e : ℕ) → e ≤ length s → goes_on s (got q (file_from s e)) ≡ e
goes_on_lem s q e h = go (leb (length s) e) refl
  where
    go : (t : Bool) → leb (length s) e ≡ t → goes_on s (got q (file_from s e)) ≡ e
    go true f = let g : length s ≤ e = leb-true (length s) e f in rw (from_out s e g) (omega arith)
    go false f = rw (from_more s e (leb-false (length s) e f)) (token-at in_file s e)

module _ (ms : List Macro) (w s : List ℕ) (at : ℕ) {set : List ℕ} (none : set ≡ []) (n : ℕ) (c : Result ℕ ℕ) (named : CalledBy c (find w ms) ms set n) where
  pub first_refused : {k : ℕ} → c ≡ Err k → first ms w s at ≡ refused k 0
  unfolding first replace
  first_refused {k} e =
      let f : CalledBy (Err k) (find w ms) ms set n = rw e at named in
      rw none at (f (file_from s at))

  module _ {i : ℕ} (e : c ≡ Ok i) where
    named_at : CalledBy (Ok i) (find w ms) ms set n
    named_at = rw e at named

    pub named_small : i < n
    named_small = named_at.2

    first_listed : first ms w s at ≡ with_list (insert_asc i []) (formals_of (macro_at ms i)) (macro_text (macro_at ms i)) (list_for (formals_of (macro_at ms i)) (file_from s at))
    unfolding first replace elem
    first_listed = rw named_at.0 (replace_parts (macro_at ms i) (insert_asc i []) (file_from s at))

    module _ (b : List ℕ) (l ranges : List (List ℕ)) (a : Result (ℕ × ℕ) Fault)
        (found : AcceptedBy a (list_for (formals_of (macro_at ms i)) (items_from s b l 0 true at)) (items_from s b l 0 true) (length s) ranges) where
      first_barred : {k : Fault} → a ≡ Err k → first ms w s at ≡ refused k.number k.place
      unfolding items_from
      first_barred {k} r =
          let f : AcceptedBy (Err k) (list_for (formals_of (macro_at ms i)) (items_from s b l 0 true at)) (items_from s b l 0 true) (length s) ranges = rw r at found in
          first_listed ∙ ap (λ (x : Listed). with_list (insert_asc i []) (formals_of (macro_at ms i)) (macro_text (macro_at ms i)) x) f

      module _ {given next : ℕ} (r : a ≡ Ok (given, next)) where
        accepts : Accepts (list_for (formals_of (macro_at ms i)) (items_from s b l 0 true at)) (items_from s b l 0 true) (length s) ranges given next
        accepts = rw r at found

        first_got : first ms w s at ≡ got (text_with (insert_asc i []) (formals_of (macro_at ms i)) (tidy_all accepts.arguments) (macro_text (macro_at ms i))) (file_from s next)
        unfolding items_from
        first_got = first_listed ∙ ap (λ (x : Listed). with_list (insert_asc i []) (formals_of (macro_at ms i)) (macro_text (macro_at ms i)) x) accepts.shape

-- ---- the usage expanded

module _ (o : Outer) (ms : List Macro) (limit : ℕ) (w s : List ℕ) (at : ℕ) (text map : List ℕ) (z : Stand) where
  pub expands_refused : {k p : ℕ} {r : Expanded} → first ms w s at ≡ refused k p → r ≡ stopped_at k p 0 z → Expands o ms limit w s at text text map map z r
  unfolding expand
  expands_refused {k} {p} f a =
      rw f (ends_stopped 0 text map z (ends k p (room_of (length text) (length map) z.spot)) k p (room_of (length text) (length map) z.spot) refl a)

  module _ {q : List Pending} {e : ℕ} (f : first ms w s at ≡ got q (file_from s e)) (h : e ≤ length s) (b : List ℕ) (l' : List (List ℕ)) where
    expands_ended : (t : Turn) {k p : ℕ} {r : Expanded} → t ≡ turn.Ended k p → PutBy t s b l' q [] limit z → r ≡ stopped_at k p e z → Expands o ms limit w s at text text map map z r
    unfolding expand
    expands_ended t {k} {p} c u a =
        let room : Room = room_of (length text) (length map) z.spot in
        let v : PutBy (turn.Ended k p) s b l' q [] limit z = rw c at u in
        rw (f, goes_on_lem s q e h) (ends_stopped e text map z (onward (left_of limit z) o ms q [] room) k p room (v o ms room) a)

    expands_run : (t : Turn) {y : Stand} {text' map' : List ℕ} {r : Expanded} → t ≡ turn.On y → PutBy t s b l' q [] limit z
        → Ends e text text' map map' y (rest_of o ms s b l' limit text map y) r → Expands o ms limit w s at text text' map map' z r
    unfolding expand
    expands_run t {y} c u i =
        let v : Puts s b l' q [] limit z y = rw c at u in
        rw (f, goes_on_lem s q e h) (ends_same (finish_onward e o ms s b l' q [] limit text map z y v) i)

-- ---- the usage, from what its parts answer: what it names, its record, its list, what was put in

module _ (s w b : List ℕ) (at : ℕ) (records : List (List ℕ)) (macros : ℕ) (small : length b ≤ 65536) {set : List ℕ} (none : set ≡ []) (c : Result ℕ ℕ)
    (named : (ms : List Macro) → Holds ms b records macros → CalledBy c (find w ms) ms set macros) {i : ℕ} (e : c ≡ Ok i) {q : Record}
    (row : RecordIs (get_or records i blank_record) q) (l ranges : List (List ℕ)) (a : Result (ℕ × ℕ) Fault)
    (found : (fs : List Parameter) (t : List ℕ) → MacroIn b q fs t → AcceptedBy a (list_for fs (items_from s b l 0 true at)) (items_from s b l 0 true) (length s) ranges) where
  held : (ms : List Macro) → Holds ms b records macros → MacroIn b q (formals_of (macro_at ms i)) (macro_text (macro_at ms i))
  held ms h = macro_in h small i (named_small ms w s at none macros c (named ms h) e) row

  pub usage_barred : (o : Outer) (ms : List Macro) → Holds ms b records macros → (limit : ℕ) (text map : List ℕ) (z : Stand) {k : Fault} {r : Expanded} → a ≡ Err k → r ≡ stopped_at k.number k.place 0 z
      → Expands o ms limit w s at text text map map z r
  usage_barred o ms h limit text map z f x =
      expands_refused o ms limit w s at text map z (first_barred ms w s at none macros c (named ms h) e b l ranges a (found _ _ (held ms h)) f) x

  module _ {given next : ℕ} (listed_at : a ≡ Ok (given, next)) where
    module _ (ms : List Macro) (h : Holds ms b records macros) where
      list_of : Accepts (list_for (formals_of (macro_at ms i)) (items_from s b l 0 true at)) (items_from s b l 0 true) (length s) ranges given next
      list_of = accepts ms w s at none macros c (named ms h) e b l ranges a (found _ _ (held ms h)) listed_at

      abbrev new : List Pending
      new = text_with (insert_asc i []) (formals_of (macro_at ms i)) (tidy_all list_of.arguments) (macro_text (macro_at ms i))

      replaced : first ms w s at ≡ got new (file_from s next)
      unfolding list_of
      replaced = first_got ms w s at none macros c (named ms h) e b l ranges a (found _ _ (held ms h)) listed_at

    pub usage_in : Stored b records macros → UsageIn b q (items_from s b l 0 true) (length s) ranges given
    usage_in m =
        let g = list_of m.macros m.holds in
        record {
          formals = formals_of (macro_at m.macros i);
          text = macro_text (macro_at m.macros i);
          arguments = g.arguments;
          macro_in = held m.macros m.holds;
          count = g.count;
          ranged = g.ranged;
          unplaced = g.unplaced;
        }

    module _ (t : Turn) (l' : List (List ℕ)) (limit : ℕ) (z : Stand)
        (put : (fs : List Parameter) (x : List ℕ) (xs : List (List Pending)) → MacroIn b q fs x → given ≡ length xs
        → Ranged (items_from s b l 0 true) (length s) ranges xs → PutBy t s b l' (text_with (insert_asc i []) fs (tidy_all xs) x) [] limit z) where
      put_new : (ms : List Macro) (h : Holds ms b records macros) → PutBy t s b l' (new ms h) [] limit z
      put_new ms h =
          let g = list_of ms h in
          put (formals_of (macro_at ms i)) (macro_text (macro_at ms i)) g.arguments (held ms h) g.count g.ranged

      pub usage_stands : {y : Stand} {text map : List ℕ} → Stored b records macros → t ≡ turn.On y → Within text map z.spot → Stands text map y
      usage_stands {y} m f d =
          let u : Puts s b l' (new m.macros m.holds) [] limit z y = rw f at (put_new m.macros m.holds) in
          rw u.stand (record { few = u.few; spot = d })

      module _ (o : Outer) (ms : List Macro) (h : Holds ms b records macros) (text map : List ℕ) where
        pub usage_ended : {k p : ℕ} {r : Expanded} → t ≡ turn.Ended k p → r ≡ stopped_at k p next z → Expands o ms limit w s at text text map map z r
        usage_ended f x = expands_ended o ms limit w s at text map z (replaced ms h) (list_of ms h).within b l' t f (put_new ms h) x

        pub usage_run : {y : Stand} {text' map' : List ℕ} {r : Expanded} → t ≡ turn.On y → Ends next text text' map map' y (rest_of o ms s b l' limit text map y) r
            → Expands o ms limit w s at text text' map map' z r
        usage_run f x = expands_run o ms limit w s at text map z (replaced ms h) (list_of ms h).within b l' t f (put_new ms h) x
