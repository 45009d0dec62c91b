-- A token that is a usage is, by its view, one of its name.
-- Assumes nothing.
use Prim.Native.Nat.{ℕ}
use mathlib.Core.Bool.{true, false, ◌||◌}
use mathlib.Core.List.{List}
use mathlib.Core.Path.{◌≡◌, refl}
use lib.Dec.{eqb}
use Rattle.lex.specs.Tokens.{Name, Escaped, Quote, Grave, Byte}
use Rattle.lex.proofs.Tests.{by_test, true_false}
use Rattle.names.specs.Names.{is_directive, bars_text}
use Rattle.pending.specs.declared.Pend.{Pend}
use Rattle.pending.specs.Pending.{View, calls, is_blank, byte_view, grave_view, kind_view, is_call, view}
use Rattle.pending.specs.References.{pending_by}

abbrev Quiet : View → Type 0
Quiet v = is_call v ≡ false

-- a byte that is a token is no usage
pub byte_quiet : (b : ℕ) → Quiet (byte_view b)
byte_quiet b =
    by_test Quiet (eqb b 40) (λ e. refl)
    (λ e. by_test Quiet (eqb b 91) (λ e. refl)
    (λ e. by_test Quiet (eqb b 123) (λ e. refl)
    (λ e. by_test Quiet (eqb b 41 || (eqb b 93 || eqb b 125)) (λ e. refl)
    (λ e. by_test Quiet (eqb b 44) (λ e. refl) (λ e. refl)))))

-- v is no usage, or one of w
abbrev Only : List ℕ → View → Type 0
Only w v = is_call v ≡ true → v ≡ calls w

only_quiet : (w : List ℕ) (v : View) → Quiet v → Only w v
only_quiet w v e q = true_false (is_call v) q e

only_grave : (w : List ℕ) → Only w (grave_view w)
only_grave w =
    by_test (Only w) (bars_text w) (λ e. only_quiet w _ refl)
    (λ e. by_test (Only w) (is_directive w) (λ e. only_quiet w _ refl) (λ e q. refl))

only_kind : (k b : ℕ) (w : List ℕ) → Only w (kind_view k b w)
unfolding kind_view
only_kind k b w =
    by_test (Only w) (is_blank k) (λ e. only_quiet w _ refl)
    (λ e. by_test (Only w) (eqb k Name || eqb k Escaped) (λ e. only_quiet w _ refl)
    (λ e. by_test (Only w) (eqb k Quote) (λ e. only_quiet w _ refl)
    (λ e. by_test (Only w) (eqb k Grave) (λ e. only_grave w)
    (λ e. by_test (Only w) (eqb k Byte) (λ e. only_quiet w _ (byte_quiet b)) (λ e. only_quiet w _ refl)))))

pub usage_view : (s b : List ℕ) (p : Pend) → is_call (view (pending_by s b p)) ≡ true → view (pending_by s b p) ≡ calls (pending_by s b p).name
unfolding view pending_by
usage_view s b p = only_kind p.kind _ _
