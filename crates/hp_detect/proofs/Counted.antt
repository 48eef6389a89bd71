-- The trees of ropes whose chunks are full: how many chunks they have, and what a chunk more or less makes of them.
use Rattle.std.proofs.Common.{◌≡◌, sym, ap, subst, ℕ, ◌+◌, ◌*◌, ◌<◌, ◌≤◌, arith, List, ◌++◌, length, length-append, Option, Some, None}
use Rattle.std.specs.declared.sync.Arc.{Arc}
use Rattle.std.specs.declared.alloc.Global.{Global}
use Rattle.hp_model.specs.Occurrences.{Occurrence}
use Rattle.hp_detect.specs.declared.rope.Rope.{Rope}
use Rattle.hp_detect.specs.declared.rope.Rope.TheVariants.{Leaf, Both'}
use Rattle.hp_detect.specs.Shapes.{Shape, node, chunks, IsWorn, IsSettled, IsBalanced}
use Rattle.hp_detect.specs.Ropes.{laid_out, rest_laid_out, IsCounted, RestIsCounted, shape, joined_shape, RestIs}
use Rattle.hp_detect.proofs.Heights.{full_worn, grown_settled, grown_balanced, worn_less, settled_less, IsLess}

counted_length : (r : Rope) → IsCounted r → length (laid_out r) ≡ 8 * chunks (shape r)
counted_length (Leaf chunk) full = full
counted_length (Both' count p first q second) counted =
    omega (arith, length-append (laid_out first) (laid_out second), counted_length first counted.1, counted_length second counted.2)

pub fewer_chunks : (r s : Rope) (m n : ℕ) → IsCounted r → IsCounted s → m ≡ length (laid_out r) → n ≡ length (laid_out s) → m < n → chunks (shape r) < chunks (shape s)
fewer_chunks r s m n here there is is' few = omega (arith, counted_length r here, counted_length s there, is, is', few)

pub no_fewer_chunks : (r s : Rope) (m n : ℕ) → IsCounted r → IsCounted s → m ≡ length (laid_out r) → n ≡ length (laid_out s) → n ≤ m → chunks (shape s) ≤ chunks (shape r)
no_fewer_chunks r s m n here there is is' many = omega (arith, counted_length r here, counted_length s there, is, is', many)

pub one_more_chunk : (r s : Rope) (last : List Occurrence) → IsCounted r → IsCounted s → laid_out s ≡ laid_out r ++ last → length last ≡ 8 → chunks (shape s) ≡ chunks (shape r) + 1
one_more_chunk r s last here there is full =
    omega (arith, counted_length r here, counted_length s there, ap length is, length-append (laid_out r) last, full)

-- what is left has no more chunks
pub no_more_left : (l : Rope) (first : List Occurrence) (rest : Option (Arc Rope Global)) → IsCounted l → RestIsCounted rest → laid_out l ≡ first ++ rest_laid_out rest
    → RestIs (λ t. chunks t ≤ chunks (shape l)) rest
no_more_left l first None here there is = tt
no_more_left l first (Some r) here there is =
    omega (arith, counted_length l here, counted_length r.value there, ap length is, length-append first (laid_out r.value))

-- a node whose first part has one chunk less
pub less_first : (rest : Option (Arc Rope Global)) {s r : Shape} (a b : Shape) → s ≡ node a b → r ≡ joined_shape rest b → RestIs (λ t. chunks t ≤ chunks a) rest
    → (IsSettled a → RestIs IsSettled rest) → (IsWorn a → RestIs IsWorn rest) → IsLess s r
less_first None {s} {r} a b from is few settled worn = record {
  balanced = λ h. let w : IsBalanced (node a b) = subst IsBalanced from h in subst IsBalanced (sym is) (grown_balanced b w.1);
  settled = λ h. let w : IsSettled (node a b) = subst IsSettled from h in subst IsSettled (sym is) (grown_settled b w.0);
  worn = λ h. let w : IsWorn (node a b) = subst IsWorn from h in subst IsWorn (sym is) (full_worn b w.1);
}
less_first (Some l) {s} {r} a b from is few settled worn = record {
  balanced = λ h. let w : IsBalanced (node a b) = subst IsBalanced from h in subst IsBalanced (sym is) (settled w.0, w.1);
  settled = λ h. let w : IsSettled (node a b) = subst IsSettled from h in subst IsSettled (sym is) (settled_less a b (shape l.value) few worn settled w);
  worn = λ h. let w : IsWorn (node a b) = subst IsWorn from h in subst IsWorn (sym is) (worn_less a b (shape l.value) few (worn w.0) w);
}
