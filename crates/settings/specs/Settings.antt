-- The directive state (01: "Copied as written, .. and kept as state").
-- Assumes nothing.
use Rattle.std.specs.Prelude.{ℕ, true, false}
use Rattle.directive.specs.declared.Value.{Value}
use Rattle.directive.specs.declared.Value.TheVariants.{Nothing, Times, NetType, Cell, Drive, Version, StartingSet, Reset}
use Rattle.settings.specs.declared.Settings.{Settings}

-- "The latest `begin_keywords` governs and `end_keywords` returns to the starting set", as does "Reset"; k: the set before
abbrev pub keywords_by : Value → ℕ → ℕ → ℕ
keywords_by Nothing set k = k
keywords_by (Times u p) set k = k
keywords_by (NetType n) set k = k
keywords_by (Cell n) set k = k
keywords_by (Drive n) set k = k
keywords_by (Version n) set k = n
keywords_by StartingSet set k = set
keywords_by Reset set k = set

-- "Reset: timescale unset, wire, no cell, no drive, starting keyword set"
abbrev pub reset_to : ℕ → Settings
reset_to set = record { scaled = false; unit = 0; precision = 0; net = 0; cell = 0; drive = 0; keywords = set }

-- the state with this net type, cell, drive and keyword set
abbrev pub having : ℕ → ℕ → ℕ → ℕ → Settings → Settings
having n l d k c = record { scaled = c.scaled; unit = c.unit; precision = c.precision; net = n; cell = l; drive = d; keywords = k }

-- the state behind a directive that says this, which leaves the keyword set as it is here
abbrev pub other_by : Value → Settings → Settings
other_by Nothing c = c
other_by (Times u p) c =
    record { scaled = true; unit = u; precision = p; net = c.net; cell = c.cell; drive = c.drive; keywords = c.keywords }
other_by (NetType n) c = having n c.cell c.drive c.keywords c
other_by (Cell n) c = having c.net n c.drive c.keywords c
other_by (Drive n) c = having c.net c.cell n c.keywords c
other_by (Version n) c = c
other_by StartingSet c = c
other_by Reset c = reset_to c.keywords

-- the state behind a directive that says this; set: the starting keyword set
abbrev pub set_by : Value → ℕ → Settings → Settings
set_by v set c = other_by v (having c.net c.cell c.drive (keywords_by v set c.keywords) c)
