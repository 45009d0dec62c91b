-- A usage expanded in a larger room writes the same, or more where the smaller room ran out.
-- Assumes nothing.
use Prim.Native.Nat.{ℕ, zero, suc, ◌≤◌}
use mathlib.Core.Bool.{Bool, true, false, cond}
use mathlib.Core.List.{List, [], ◌∷◌, ◌++◌, append-nil, append_assoc}
use mathlib.Core.Path.{◌≡◌, refl, sym, ap, subst, ◌∙◌}
use native.Mathlib.Omega.{arith}
use lib.Dec.{ltb}
use lib.ListN.{length}
use borrow.Author.Tests.{ltb-false, le-ltb}
use Rattle.lex.proofs.Tests.{by_test, true_false}
use Rattle.definition.specs.Definitions.{Macro}
use Rattle.writing.specs.Written.{Written, placed, map_of, fresh_after, Room, Put, full, fitted, put_in}
use Rattle.pending.specs.Pending.{Pending, view}
use Rattle.pending.proofs.Viewing.{by_usages}
use Rattle.replace.specs.Replacing.{Got, refused, got, replace, deepest}
use Rattle.expand.specs.Expanding.{Outer, Expansion, Next, ends, writing, replacing, on_got, on_put, walk, onward, writes, first, expand}
use Rattle.turns.specs.States.{room_after}
use Rattle.claims.specs.Growing.{Front, wants_room}

-- what holds of two pairs of values, each where a test is so, holds of those picked by it
pub both_by : {A : Type 0} (P : A → A → Type 0) (b : Bool) {x y x' y' : A} → (b ≡ true → P x x') → (b ≡ false → P y y')
    → P (cond b x y) (cond b x' y')
both_by P true f g = f refl
both_by P false f g = g refl

-- ---- rooms

-- r' has as much room as r or more
pub record Wider (r r' : Room) : Type 0 where
  pub bytes_le : r.bytes ≤ r'.bytes
  pub lines_le : r.lines ≤ r'.lines
  pub fresh_is : r.fresh ≡ r'.fresh

-- so it is behind what was written
pub after_wider : (r r' : Room) (ws : List Written) → Wider r r' → Wider (room_after r ws) (room_after r' ws)
after_wider r r' ws w =
    let b : r.bytes ≤ r'.bytes = w.bytes_le in
    let l : r.lines ≤ r'.lines = w.lines_le in
    let m : length (map_of r.fresh ws) ≡ length (map_of r'.fresh ws) = ap (λ (f : Bool). length (map_of f ws)) w.fresh_is in
    record { bytes_le = omega arith; lines_le = omega arith; fresh_is = ap (λ (f : Bool). fresh_after f ws) w.fresh_is }

-- what fits the smaller room fits the larger
pub data PutsGrow : Put → Put → Type 0 where
  fits : (r r' : Room) → Wider r r' → PutsGrow (fitted r) (fitted r')
  lacks : (n : ℕ) (p : Put) → wants_room n ≡ true → PutsGrow (full n) p

-- what has room is put
put_room : (r : Room) (ws : List Written) → length ws ≤ r.bytes → length (map_of r.fresh ws) ≤ r.lines
    → put_in r ws ≡ fitted (room_after r ws)
unfolding put_in
put_room r ws a b = rw (le-ltb r.bytes (length ws) a, le-ltb r.lines (length (map_of r.fresh ws)) b)

pub put_grows : (r r' : Room) (ws : List Written) → Wider r r' → PutsGrow (put_in r ws) (put_in r' ws)
unfolding put_in
put_grows r r' ws w =
    let n = length ws in
    let l = length (map_of r.fresh ws) in
    by_test (λ (p : Put). PutsGrow p (put_in r' ws)) (ltb r.bytes n) (λ e. lacks 19 (put_in r' ws) refl)
    (λ e. by_test (λ (p : Put). PutsGrow p (put_in r' ws)) (ltb r.lines l) (λ d. lacks 20 (put_in r' ws) refl)
    (λ d. let a : n ≤ r.bytes = ltb-false r.bytes n e in
    let b : l ≤ r.lines = ltb-false r.lines l d in
    let m : l ≡ length (map_of r'.fresh ws) = ap (λ (f : Bool). length (map_of f ws)) w.fresh_is in
    subst (λ (p : Put). PutsGrow (fitted (room_after r ws)) p)
    (sym (put_room r' ws (omega (arith, w.bytes_le)) (omega (arith, w.lines_le))))
    (fits (room_after r ws) (room_after r' ws) (after_wider r r' ws w))))

-- ---- what is written

pub front_none : (vs : List Written) → Front [] vs
front_none vs = record { rest = vs; front_is = refl }

pub front_same : (ws : List Written) → Front ws ws
front_same ws = record { rest = []; front_is = sym (append-nil ws) }

-- both behind the same
pub front_behind : (us ws vs : List Written) → Front ws vs → Front (us ++ ws) (us ++ vs)
front_behind us ws vs f =
    record { rest = f.rest; front_is = ap (λ (l : List Written). us ++ l) f.front_is ∙ sym (append_assoc us ws f.rest) }

-- the other goes on
pub front_on : (ws vs us : List Written) → Front ws vs → Front ws (vs ++ us)
front_on ws vs us f =
    record { rest = f.rest ++ us; front_is = ap (λ (l : List Written). l ++ us) f.front_is ∙ append_assoc ws f.rest us }

-- ---- an expansion

-- e with the room r left
abbrev pub leaving : Room → Expansion → Expansion
leaving r e =
    record { text = e.text; count = e.count; depth = e.depth; stop = e.stop; place = e.place; room = r }

-- the text of e is a front of the other's; where e does not lack room they differ in the room left alone
pub record ExpansionGrows (e e' : Expansion) : Type 0 where
  pub text_front : Front e.text e'.text
  pub alike : wants_room e.stop ≡ false → e' ≡ leaving e'.room e

ends_grow : (n i : ℕ) (r r' : Room) → ExpansionGrows (ends n i r) (ends n i r')
ends_grow n i r r' = record { text_front = front_none []; alike = λ z. refl }

-- the rest of an expansion, in two rooms
abbrev NextGrows : Next → Type 0
NextGrows go = (q rest : List Pending) (r r' : Room) → Wider r r' → ExpansionGrows (go q rest r) (go q rest r')

got_grows : (go : Next) → NextGrows go → (r r' : Room) → Wider r r' → (g : Got) → ExpansionGrows (on_got go r g) (on_got go r' g)
got_grows go f r r' w (refused n i) = ends_grow n i r r'
got_grows go f r r' w (got q rest) = f q rest r r' w

lack_alike : (n i : ℕ) (r : Room) (e : Expansion) → wants_room n ≡ true → ExpansionGrows (ends n i r) e
lack_alike n i r e q = record { text_front = front_none e.text; alike = λ z. true_false (wants_room n) q z }

puts_grow : (ws : List Written) (r r' : Room) (p p' : Put) → PutsGrow p p' → (go : Room → Expansion)
    → ((a b : Room) → Wider a b → ExpansionGrows (go a) (go b)) → ExpansionGrows (on_put ws r p go) (on_put ws r' p' go)
puts_grow ws r r' p p' (fits a b w) go f =
    let g : ExpansionGrows (go a) (go b) = f a b w in
    record { text_front = front_behind ws (go a).text (go b).text g.text_front; alike = λ z. ap (writing ws) (g.alike z) }
puts_grow ws r r' p p' (lacks n q z) go f = lack_alike n 0 r (on_put ws r' q go) z

walk_grows : (go : Next) → NextGrows go → (o : Outer) (ms : List Macro) (ps : List Pending) (r r' : Room) → Wider r r'
    → ExpansionGrows (walk go o ms r ps) (walk go o ms r' ps)
unfolding walk
walk_grows go f o ms [] r r' w = ends_grow 0 0 r r'
walk_grows go f o ms (p ∷ ps) r r' w =
    let ws = placed 0 o.place (writes o p) in
    by_usages ExpansionGrows (view p)
    (λ z. puts_grow ws r r' (put_in r ws) (put_in r' ws) (put_grows r r' ws w) (λ a. walk go o ms a ps)
    (λ a b v. walk_grows go f o ms ps a b v))
    (λ u z. got_grows go f r r' w (replace ms u p.own ps))

onward_grows : (n : ℕ) (o : Outer) (ms : List Macro) → NextGrows (onward n o ms)
unfolding onward
onward_grows zero o ms q rest r r' w = ends_grow 18 0 r r'
onward_grows (suc n) o ms q rest r r' w =
    both_by ExpansionGrows (ltb 1024 (length (q ++ rest))) (λ z. ends_grow 17 0 r r')
    (λ z. let g = walk_grows (onward n o ms) (onward_grows n o ms) o ms (q ++ rest) r r' w in
    record { text_front = g.text_front; alike = λ k. ap (replacing (deepest q)) (g.alike k) })

-- a usage expanded in a larger room
pub expand_grows : (n : ℕ) (o : Outer) (ms : List Macro) (r r' : Room) (w s : List ℕ) (i : ℕ) → Wider r r'
    → ExpansionGrows (expand n o ms r w s i) (expand n o ms r' w s i)
unfolding expand
expand_grows n o ms r r' w s i v =
    got_grows (λ q rest a. onward n o ms q [] a) (λ q rest a b k. onward_grows n o ms q [] a b k) r r' v (first ms w s i)
