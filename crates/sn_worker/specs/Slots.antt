-- A slot's life: that of its worker, and how near it is to giving packets back.
use Rattle.std.specs.Prelude.{ℕ, ◌+◌, ◌*◌, ◌/◌, if◌then◌else◌, max, nat_le}
use Rattle.sn_scenario.specs.declared.settings.Settings.{Settings}
use Rattle.sn_worker.specs.Lives.{Life, new_life}

-- its worker's life, and how many breaths this took since a hundred of them were full
pub record SlotLife : Type 0 where
  pub life : Life
  pub breathed : ℕ

-- a life that begins
abbrev pub new_slot_life : SlotLife
new_slot_life = record { life = new_life; breathed = 0 }

-- after one breath more: with the hundredth it begins again at 0
abbrev pub after_breath : ℕ → ℕ
after_breath breathed = if nat_le 99 breathed then 0 else breathed + 1

-- how many free packets a worker keeps: its share of half the pool, and at least one
abbrev pub keep_of : Settings → ℕ
keep_of settings = max 1 (settings.pool / (2 * settings.workers))
