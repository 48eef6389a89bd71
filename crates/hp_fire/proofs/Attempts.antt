-- Attempts at firings.
use Rattle.std.proofs.Common.{◌≡◌, sym, ap, subst, List, []}
use Rattle.hp_model.specs.Rules.{Library}
use Rattle.hp_model.specs.Tree.{Task}
use Rattle.hp_model.specs.Firing.{fire_task}
use Rattle.hp_model.specs.Cells.{Changes, Read, cells, over}
use Rattle.hp_model.specs.Soundness.{FiringAnswer, IsSound}
use Rattle.hp_store.specs.Changes.{changes}
use Rattle.hp_view.specs.Seeing.{Seeing, written}
use Rattle.hp_fire.specs.Runs.{RunsFiring}

-- a firing on a view that began with no writes is a sound attempt
pub attempt_sound : (library : Library) (t : Task) (v w : Seeing) (f : FiringAnswer) → v.writes ≡ [] → RunsFiring library (λ S. fire_task library S t) v w f
    → (task : Task) (reads : List Read) (layer : Changes) → task ≡ t → reads ≡ w.reads → layer ≡ written w → IsSound library (record { task = task; reads = reads; layer = layer; answer = f })
attempt_sound library t v w f none r task reads layer same_task same_reads same_layer =
    subst (λ (u : Task). IsSound library (record { task = u; reads = reads; layer = layer; answer = f })) (sym same_task)
    (subst (λ (rs : List Read). IsSound library (record { task = t; reads = rs; layer = layer; answer = f })) (sym same_reads)
    (subst (λ (l : Changes). IsSound library (record { task = t; reads = w.reads; layer = l; answer = f })) (sym same_layer)
    (record {
      from = λ S ordered held. r.faithful.from (cells library S) held S ordered (sym (ap (λ es. over (cells library S) (changes es)) none));
    })))
