-- Replacing a stretch of the live front of a buffer, the rest of which is blank.
-- Assumes nothing.
use Rattle.std.specs.Prelude.{ℕ, ◌+◌, ◌-◌, max, List, ◌++◌, length, take, drop, replicate}

module _ {A : Type 0} where
  -- how many elements are live, where xs take the place of `old` of them
  abbrev pub live_after : ℕ → List A → ℕ → ℕ
  live_after old xs live = live - old + length xs

  -- l with xs in the place of the `old` elements at i, what stood behind them up to `live` moved along, and `blank`
  -- where nothing is live any more; past both live stretches as before
  unfoldable pub spliced : A → List A → ℕ → ℕ → List A → ℕ → List A
  spliced blank l i old xs live =
      take i l ++
      (xs ++
      (take (live - (i + old)) (drop (i + old) l) ++
      (replicate (live - live_after old xs live) blank ++ drop (max live (live_after old xs live)) l)))
