-- From where a task that is tried ahead of its turn starts: the wave's snapshot, under what the tasks before it have
-- posted.
use Rattle.std.specs.Prelude.{◌≡◌, ℕ, zero, suc, ◌+◌, ◌<◌, List, Option, Some, None, IsSome}
use Rattle.std.specs.Option.{option_or}
use Rattle.std.specs.declared.sync.Arc.{Arc}
use Rattle.std.specs.declared.alloc.Global.{Global}
use Rattle.hp_model.specs.Cells.{Cell, Cells, Changes, no_changes, over, Holds}
use Rattle.hp_board.specs.Passes.{Fact, known_at}
use Rattle.hp_store.specs.declared.layer.Layer.{Layer}
use Rattle.hp_store.specs.Changes.{changes}
use Rattle.hp_store.specs.Stack.{Stack, cells_in}
use Rattle.hp_fire.specs.declared.speculate.pending.Tried.{Tried}
use Rattle.hp_fire.specs.declared.speculate.predecessors.Predecessors.{Predecessors}
use Rattle.hp_fire.specs.declared.speculate.wave.Wave.{Wave}
use Rattle.hp_fire.specs.declared.speculate.worker.Worker.{Worker}

module _ {T : Type 0} (changes_of : T → Changes) where
  -- what a cell's value changes, if it is known
  abbrev pub change_of : Option T → Changes
  change_of None = no_changes
  change_of (Some x) = changes_of x

  -- what a pass knows to be posted by the tasks of the numbers below n; where two of them change a cell, the later one's
  -- change counts
  abbrev pub posted_below : List (Fact T) → ℕ → Changes
  posted_below facts zero cell = None
  posted_below facts (suc n) cell = option_or (change_of (known_at facts n) cell) (posted_below facts n cell)

  -- these are the changes of the first tasks, each of which has posted as the pass knows
  pub record AreMerged (facts : List (Fact T)) (count : ℕ) (merged : Changes) : Type 0 where
    pub each : (j : ℕ) → j < count → IsSome (known_at facts j)
    pub changes : (cell : Cell) → merged cell ≡ posted_below facts count cell

-- a pass that knew the facts before knows them after
abbrev pub Remembers : {T : Type 0} → (before after : List (Fact T)) → Type 0
Remembers before after = (j : ℕ) → IsSome (known_at before j) → known_at after j ≡ known_at before j

-- who still has a pass had one before, which has only learned
abbrev pub OnlyLearns : {T : Type 0} → (before after : Option (List (Fact T))) → Type 0
OnlyLearns before None = Unit {0}
OnlyLearns {T} before (Some facts) = (known : List (Fact T)) × (before ≡ Some known) × Remembers known facts

-- what a pass knows of the layers that the tasks of a wave have posted
abbrev pub Posts : Type 0
Posts = List (Fact (Arc Layer Global))

abbrev pub layer_changes : Arc Layer Global → Changes
layer_changes layer = changes layer.value

-- the cells from which the task of number n starts
abbrev pub start_cells : Stack → Posts → ℕ → Cells
start_cells snapshot posts n = over (cells_in snapshot) (posted_below layer_changes posts n)

-- what a worker has merged
abbrev pub HasMerged : Predecessors → Posts → Type 0
HasMerged p posts = AreMerged layer_changes posts p.count (changes p.layer.value)

-- the task of number n starts from this snapshot, as far as the worker's pass knows
pub record StartsFrom (w : Worker) (n : ℕ) (start : Stack) : Type 0 where
  pub posts : Posts
  pub known : w.pass ≡ Some posts
  pub cells : cells_in start ≡ start_cells w.wave.now.snapshot posts n

-- A worker tried the task in the wave, and its pass only learned meanwhile: the attempt's reads held in the wave's
-- snapshot, under layers of the wave's tasks before it. The pass knows all of these after, and they have all that it
-- knew before. So the reads of the wave's first task held in the snapshot itself.
pub record IsTriedBy (w : Wave) (before after : Option Posts) (t : Tried) : Type 0 where
  pub number : ℕ
  pub index : t.index ≡ w.done + number
  pub posts : Posts
  pub then_knew : OnlyLearns before (Some posts)
  pub still_knows : OnlyLearns (Some posts) after
  pub has_pass : IsSome after
  pub held : Holds (start_cells w.snapshot posts number) t.attempt.reads

-- The same of what is sent, from a wave with this snapshot, before which so many tasks were settled. What is sent has no
-- pass with it. So here the layers are any, at most one for each task of the wave before it.
pub record IsTriedFrom (snapshot : Stack) (done : ℕ) (t : Tried) : Type 0 where
  pub number : ℕ
  pub index : t.index ≡ done + number
  pub posts : Posts
  pub held : Holds (start_cells snapshot posts number) t.attempt.reads
