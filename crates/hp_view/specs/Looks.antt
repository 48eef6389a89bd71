-- The objects that a view may show to a query.
use Rattle.std.specs.Prelude.{◌≡◌, refl, ℕ, ℤ, [], ◌++◌, option_map}
use Rattle.std.proofs.Common.{sym, ap, ◌∙◌, subst, append-nil, append_assoc}
use Rattle.hp_model.specs.ClassParts.{ClassPart}
use Rattle.hp_model.specs.State.{Objects, find_object}
use Rattle.hp_model.specs.Cells.{Cells, object_cell, row_value, over, Holds}
use Rattle.hp_model.proofs.BridgesCells.{Holds-front}
use Rattle.hp_view.specs.Adding.{AddsReads, IsOfClassOrPart, IsOfRow, IsOfPart, adds_none, adds_then}
use Rattle.hp_view.specs.Seeing.{Seeing, written, OnlyReads}
use Rattle.hp_store.specs.Changes.{changes}

-- a world of objects is allowed if they are those of some cells where the view's reads hold, under the view's writes
pub record Allows (v : Seeing) (world : Objects) : Type 0 where
  pub base : Cells
  pub held : Holds base v.reads
  pub objects : (class : ℕ) → (key : ℤ) → over base (written v) (object_cell class key) ≡ option_map row_value (find_object world class key)

-- a question about a class adds reads of it and of its parts, and no others
pub record AsksOf (class : ℕ) (old new : Seeing) : Type 0 where
  pub only : OnlyReads old new
  pub adds : AddsReads (IsOfClassOrPart (written old) class) old.reads new.reads

-- a question about one object adds a read of its cell, and no other
pub record AsksRow (class : ℕ) (key : ℤ) (old new : Seeing) : Type 0 where
  pub only : OnlyReads old new
  pub adds : AddsReads (IsOfRow (written old) class key) old.reads new.reads

-- a question about a part of a class adds a read of this part, and no other
pub record AsksPart (class : ℕ) (part : ClassPart) (old new : Seeing) : Type 0 where
  pub only : OnlyReads old new
  pub adds : AddsReads (IsOfPart class part) old.reads new.reads

-- ---- the laws of a look

pub only_reads_same : (v : Seeing) → OnlyReads v v
only_reads_same v = record { base = refl; reads = ([], sym (append-nil v.reads)); writes = refl; undo = refl }

pub only_reads_then : (first second third : Seeing) → OnlyReads first second → OnlyReads second third → OnlyReads first third
only_reads_then first second third one two = record {
  base = two.base ∙ one.base;
  reads = (one.reads.0 ++ two.reads.0, two.reads.1 ∙ ap (λ rs. rs ++ two.reads.0) one.reads.1 ∙ append_assoc first.reads one.reads.0 two.reads.0);
  writes = two.writes ∙ one.writes;
  undo = two.undo ∙ one.undo;
}

pub reads_narrow : (first second : Seeing) → OnlyReads first second → (world : Objects) → Allows second world → Allows first world
reads_narrow first second on world allowed = record {
  base = allowed.base;
  held = Holds-front allowed.base first.reads on.reads.0 (subst (Holds allowed.base) on.reads.1 allowed.held);
  objects = λ class key. ap (λ es. over allowed.base (changes es) (object_cell class key)) (sym on.writes) ∙ allowed.objects class key;
}

pub asks_same : (class : ℕ) (v : Seeing) → AsksOf class v v
asks_same class v = record { only = only_reads_same v; adds = adds_none (IsOfClassOrPart (written v) class) refl }

pub asks_then : (class : ℕ) (first second third : Seeing) → AsksOf class first second → AsksOf class second third → AsksOf class first third
asks_then class first second third one two = record {
  only = only_reads_then first second third one.only two.only;
  adds = adds_then one.adds (subst (λ es. AddsReads (IsOfClassOrPart (changes es) class) second.reads third.reads) one.only.writes two.adds);
}

pub asks_row_same : (class : ℕ) (key : ℤ) (v : Seeing) → AsksRow class key v v
asks_row_same class key v = record { only = only_reads_same v; adds = adds_none (IsOfRow (written v) class key) refl }
