-- Reads that a call adds.
use Rattle.std.specs.Prelude.{◌≡◌, ℕ, ℤ, List, [], ◌∷◌, ◌++◌, None}
use Rattle.std.proofs.Common.{ap, ◌∙◌, append-nil, append_assoc, sym}
use Rattle.std.specs.List.{AllByRecursion}
use Rattle.hp_model.specs.ClassParts.{ClassPart}
use Rattle.hp_model.specs.Cells.{object_cell, rule_cell, detector_cell, Changes, Read, cell_read, keys_read, greatest_read, count_read, objects_read, part_read}

-- the reads are those before and others, each of which P allows
pub record AddsReads (P : Read → Type 0) (before after : List Read) : Type 0 where
  pub others : List Read
  pub are : after ≡ before ++ others
  pub allowed : AllByRecursion P others

-- a read of a class: of its keys, of it as a whole, or of an object's cell that no write covers
abbrev pub IsOfClass : Changes → ℕ → Read → Type 0
IsOfClass layer class (cell_read (object_cell n key) value) = (n ≡ class) × (layer (object_cell n key) ≡ None)
IsOfClass layer class (cell_read (rule_cell n) value) = ⊥
IsOfClass layer class (cell_read (detector_cell n) value) = ⊥
IsOfClass layer class (keys_read n keys) = n ≡ class
IsOfClass layer class (greatest_read n greatest) = ⊥
IsOfClass layer class (count_read n count) = ⊥
IsOfClass layer class (objects_read n objects) = n ≡ class
IsOfClass layer class (part_read n part objects) = ⊥

-- the same, or of a part of the class, of its greatest key or of the number of its objects
abbrev pub IsOfClassOrPart : Changes → ℕ → Read → Type 0
IsOfClassOrPart layer class (part_read n part objects) = n ≡ class
IsOfClassOrPart layer class (greatest_read n greatest) = n ≡ class
IsOfClassOrPart layer class (count_read n count) = n ≡ class
IsOfClassOrPart layer class r = IsOfClass layer class r

-- a read of this object's cell, which no write covers
abbrev pub IsOfRow : Changes → ℕ → ℤ → Read → Type 0
IsOfRow layer class key (cell_read (object_cell n k) value) = (n ≡ class) × (k ≡ key) × (layer (object_cell n k) ≡ None)
IsOfRow layer class key r = ⊥

-- a read of this part of the class
abbrev pub IsOfPart : ℕ → ClassPart → Read → Type 0
IsOfPart class part (part_read n p objects) = (n ≡ class) × (p ≡ part)
IsOfPart class part r = ⊥

-- ---- one call after another

pub adds_none : (P : Read → Type 0) {before after : List Read} → after ≡ before → AddsReads P before after
adds_none P {before} same = record { others = []; are = same ∙ sym (append-nil before); allowed = tt }

all_append : (P : Read → Type 0) (xs ys : List Read) → AllByRecursion P xs → AllByRecursion P ys → AllByRecursion P (xs ++ ys)
all_append P [] ys p q = q
all_append P (x ∷ xs) ys p q = (p.0, all_append P xs ys p.1 q)

pub adds_then : {P : Read → Type 0} {first second third : List Read} → AddsReads P first second → AddsReads P second third → AddsReads P first third
adds_then {P} {first} one two = record {
  others = one.others ++ two.others;
  are = two.are ∙ ap (λ rs. rs ++ two.others) one.are ∙ append_assoc first one.others two.others;
  allowed = all_append P one.others two.others one.allowed two.allowed;
}
