-- A view that counts the rows that a query looks at: it shows what the view shows.
use Rattle.std.specs.Prelude.{◌≡◌, refl, ℕ, ℤ}
use Rattle.std.proofs.Common.{◌∙◌}
use Rattle.hp_model.specs.State.{Objects}
use Rattle.hp_model.specs.ClassParts.{ClassPart}
use Rattle.hp_view.specs.Seeing.{OnlyReads}
use Rattle.hp_view.specs.Asking.{AsksCount, AsksGreatest}
use Rattle.hp_view.specs.Looks.{Allows, AsksOf, AsksRow, AsksPart, asks_same, asks_then, asks_row_same, only_reads_same, only_reads_then, reads_narrow}
use Rattle.hp_fire.specs.declared.counting.Counting.{Counting}

abbrev pub AllowsCounted : Counting → Objects → Type 0
AllowsCounted c world = Allows c.view.now world

-- the view is the same one, and only reads were made
pub record OnlyCounts (a b : Counting) : Type 0 where
  pub same : b.view.ghost_name ≡ a.view.ghost_name
  pub only : OnlyReads a.view.now b.view.now

-- a question about a class does to the view what it does to any
abbrev pub AsksCounted : ℕ → Counting → Counting → Type 0
AsksCounted class a b = AsksOf class a.view.now b.view.now

-- so does a question about one object, or about a part of a class
abbrev pub AsksRowCounted : ℕ → ℤ → Counting → Counting → Type 0
AsksRowCounted class key a b = AsksRow class key a.view.now b.view.now

abbrev pub AsksPartCounted : ℕ → ClassPart → Counting → Counting → Type 0
AsksPartCounted class part a b = AsksPart class part a.view.now b.view.now

-- and so does one about the number of a class's objects, or about their greatest key
abbrev pub AsksCountCounted : ℕ → Counting → Counting → Type 0
AsksCountCounted class a b = AsksCount class a.view.now b.view.now

abbrev pub AsksGreatestCounted : ℕ → Counting → Counting → Type 0
AsksGreatestCounted class a b = AsksGreatest class a.view.now b.view.now

pub asks_row_counted_same : (class : ℕ) (key : ℤ) (c : Counting) → AsksRowCounted class key c c
asks_row_counted_same class key c = asks_row_same class key c.view.now

pub asks_counted_same : (class : ℕ) (c : Counting) → AsksCounted class c c
asks_counted_same class c = asks_same class c.view.now

pub asks_counted_then : (class : ℕ) (a b c : Counting) → AsksCounted class a b → AsksCounted class b c → AsksCounted class a c
asks_counted_then class a b c one two = asks_then class a.view.now b.view.now c.view.now one two

pub counts_same : (c : Counting) → OnlyCounts c c
counts_same c = record { same = refl; only = only_reads_same c.view.now }

pub counts_then : (a b c : Counting) → OnlyCounts a b → OnlyCounts b c → OnlyCounts a c
counts_then a b c one two = record { same = two.same ∙ one.same; only = only_reads_then a.view.now b.view.now c.view.now one.only two.only }

pub counts_narrow : (a b : Counting) → OnlyCounts a b → (world : Objects) → AllowsCounted b world → AllowsCounted a world
counts_narrow a b on world allowed = reads_narrow a.view.now b.view.now on.only world allowed
