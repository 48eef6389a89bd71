-- The numbers that JSON has fit in 64 bits, if they are negative; a positive one that doesn't is refused where it is read.
use Rattle.std.proofs.Common.{arith, ◌≡◌, refl, subst, ℕ, zero, suc, ◌^◌, ℤ, pos, List, [], ◌∷◌, Bool, true, false, ◌&&◌, Option, None, Some, IsTrue}
use Rattle.std.proofs.lemmas.Bool.Decides.{nat_tests}
use Rattle.std.specs.Prelude.{⊤, nat_lt, nat_le, ◌==◌, codes, drop, slice_index, option_map, option_and_then, if◌then◌else◌}
use Rattle.std.specs.Str.{is_utf8}
use Rattle.std.specs.List.{AllByRecursion}
use Rattle.std.specs.Ordering.{nat_cmp, match_ordering}
use Rattle.std.specs.Cmp.Lexicographic.{slice_cmp}
use Rattle.std.specs.Float.{binary64, float_is_finite}
use Rattle.std.specs.declared.cmp.Ordering.{Ordering}
use Rattle.std.specs.declared.cmp.Ordering.TheVariants.{Less, Equal, Greater}
use Rattle.fast_float.specs.Text.{minus, Parts, scan, digits_of, nearest, with_sign}
use Rattle.json.specs.Json as json
use Rattle.json.specs.Lex.{tokens}
use Rattle.serde_json.specs.Data.{Num, unsigned, negative, float, Data, null, boolean, number, string, array, object, Items, no_items, item, Members, no_members, member, put}
use Rattle.serde_json.specs.Find.{as_i64, as_array, as_str, get, get_member}
use Rattle.serde_json.specs.Read.{is_integer, float_of, number_from, number_of, of_json, of_items, of_members, max_depth, read}
use Rattle.hp_model.specs.Values.{fits_64}
use Rattle.hp_model.specs.Json.{json_of, listed, list_of, Form, form_in, form_of, two_in, pair_of}
use Rattle.hp_model.specs.Decode.{Root, root_members, member_count, wanted_count, root_of}

abbrev pub NumFits : Num → Type 0
NumFits (unsigned n) = ⊤
NumFits (negative z) = IsTrue (fits_64 z)
NumFits (float x) = ⊤

abbrev mutual
  pub DataFits : Data → Type 0
  DataFits null = ⊤
  DataFits (boolean b) = ⊤
  DataFits (number n) = NumFits n
  DataFits (string s) = ⊤
  DataFits (array ds) = ItemsFit ds
  DataFits (object ms) = MembersFit ms

  pub ItemsFit : Items → Type 0
  ItemsFit no_items = ⊤
  ItemsFit (item d ds) = DataFits d × ItemsFit ds

  pub MembersFit : Members → Type 0
  MembersFit no_members = ⊤
  MembersFit (member k d ms) = DataFits d × MembersFit ms

abbrev pub AllFit : List Data → Type 0
AllFit = AllByRecursion DataFits

-- ---- what comes of an option

pub mapped : {A B : Type 0} (f : A → B) (o : Option A) (y : B) → option_map f o ≡ Some y → (x : A) × (o ≡ Some x) × (f x ≡ y)
mapped f None y e = cc
mapped f (Some x) y e = (x, refl, let same : f x ≡ y = cc in same)

pub chained : {A B : Type 0} (f : A → Option B) (o : Option A) (y : B) → option_and_then f o ≡ Some y → (x : A) × (o ≡ Some x) × (f x ≡ Some y)
chained f None y e = cc
chained f (Some x) y e = (x, refl, e)

pub tested : {A : Type 0} (b : Bool) (o : Option A) (x : A) → (if b then o else None) ≡ Some x → (b ≡ true) × (o ≡ Some x)
tested true o x e = (refl, e)
tested false o x e = cc

-- ---- numbers

-- a number that is read as one of 64 bits
pub whole_fits : (n : Num) (z : ℤ) → NumFits n → as_i64 n ≡ Some z → IsTrue (fits_64 z)
whole_fits (unsigned n) z h e =
    let both = tested (nat_lt n (2 ^ 63)) (Some (pos n)) z e in
    let same : pos n ≡ z = cc in
    subst (λ y. IsTrue (fits_64 y)) same both.0
whole_fits (negative y) z h e = let same : y ≡ z = cc in subst (λ x. IsTrue (fits_64 x)) same h
whole_fits (float x) z h e = cc

below : (most n : ℕ) → nat_le (suc n) most ≡ true → nat_lt n most ≡ true
below most n h = grind (arith, nat_tests, h)

signed_fits : (n : ℕ) → nat_lt 0 n ≡ true → nat_le n (2 ^ 63) ≡ true → IsTrue (fits_64 (with_sign true n))
signed_fits zero some few = cc
signed_fits (suc n) some few = below (2 ^ 63) n few

three : (a b c : Bool) → (a && b && c) ≡ true → (b ≡ true) × (c ≡ true)
three true true true h = (refl, refl)
three true true false h = cc
three true false c h = cc
three false b c h = cc

float_fits : (sign : Bool) (p : Parts) (n : Num) → float_of sign p ≡ Some n → NumFits n
float_fits sign p n e =
    let both = tested (float_is_finite (nearest binary64 sign p)) (Some (float (nearest binary64 sign p))) n e in
    let same : float (nearest binary64 sign p) ≡ n = cc in
    subst NumFits same tt

by_test : (b : Bool) (m : Num) (o : Option Num) (n : Num) → (b ≡ true → NumFits m) → ((k : Num) → o ≡ Some k → NumFits k) → (if b then Some m else o) ≡ Some n → NumFits n
by_test true m o n h k e = let same : m ≡ n = cc in subst NumFits same (h refl)
by_test false m o n h k e = k n e

from_fits : (sign : Bool) (p : Parts) (n : Num) → number_from sign p ≡ Some n → NumFits n
from_fits false p n e = by_test (is_integer p && nat_lt (digits_of p) (2 ^ 64)) (unsigned (digits_of p)) (float_of false p) n (λ h. tt) (float_fits false p) e
from_fits true p n e =
    by_test (is_integer p && nat_lt 0 (digits_of p) && nat_le (digits_of p) (2 ^ 63)) (negative (with_sign true (digits_of p))) (float_of true p) n
    (λ h. let both = three (is_integer p) (nat_lt 0 (digits_of p)) (nat_le (digits_of p) (2 ^ 63)) h in signed_fits (digits_of p) both.0 both.1) (float_fits true p) e

by_sign : (b : Bool) (x y : Option Num) (n : Num) → (x ≡ Some n → NumFits n) → (y ≡ Some n → NumFits n) → (if b then x else y) ≡ Some n → NumFits n
by_sign true x y n h k e = h e
by_sign false x y n h k e = k e

number_fits : (s : List ℕ) (n : Num) → number_of s ≡ Some n → NumFits n
unfolding number_of
number_fits s n e = by_sign (slice_index s 0 == minus) (number_from true (scan (drop 1 s))) (number_from false (scan s)) n (from_fits true (scan (drop 1 s)) n) (from_fits false (scan s) n) e

-- ---- values

by_order : (o : Ordering) (a b c : Members) → MembersFit a → MembersFit b → MembersFit c → MembersFit (match_ordering o a b c)
by_order Less a b c h k l = h
by_order Equal a b c h k l = k
by_order Greater a b c h k l = l

put_fits : (k : List ℕ) (d : Data) (ms : Members) → DataFits d → MembersFit ms → MembersFit (put k d ms)
put_fits k d no_members h fit = (h, tt)
put_fits k d (member l e ms) h fit =
    by_order (slice_cmp nat_cmp k l) (member k d (member l e ms)) (member l d ms) (member l e (put k d ms)) (h, fit) (h, fit.1) (fit.0, put_fits k d ms h fit.1)

mutual
  value_fits : (j : json.Json) (d : Data) → of_json j ≡ Some d → DataFits d
  value_fits json.null d e = let same : null ≡ d = cc in subst DataFits same tt
  value_fits (json.boolean b) d e = let same : boolean b ≡ d = cc in subst DataFits same tt
  value_fits (json.number s) d e = let m = mapped number (number_of s) d e in subst DataFits m.2 (number_fits s m.0 m.1)
  value_fits (json.string s) d e = let same : string s ≡ d = cc in subst DataFits same tt
  value_fits (json.array js) d e = let m = mapped array (of_items js) d e in subst DataFits m.2 (items_fit js m.0 m.1)
  value_fits (json.object ms) d e = let m = mapped object (of_members ms no_members) d e in subst DataFits m.2 (members_fit ms no_members m.0 tt m.1)

  items_fit : (js : json.Items) (ds : Items) → of_items js ≡ Some ds → ItemsFit ds
  items_fit json.no_items ds e = let same : no_items ≡ ds = cc in subst ItemsFit same tt
  items_fit (json.item j js) ds e =
      let c = chained (λ d. option_map (item d) (of_items js)) (of_json j) ds e in
      let m = mapped (item c.0) (of_items js) ds c.2 in
      subst ItemsFit m.2 (value_fits j c.0 c.1, items_fit js m.0 m.1)

  members_fit : (js : json.Members) (found ms : Members) → MembersFit found → of_members js found ≡ Some ms → MembersFit ms
  members_fit json.no_members found ms fit e = let same : found ≡ ms = cc in subst MembersFit same fit
  members_fit (json.member k j js) found ms fit e =
      let c = chained (λ d. of_members js (put k d found)) (of_json j) ms e in
      members_fit js (put k c.0 found) ms (put_fits k c.0 found (value_fits j c.0 c.1) fit) c.2

converted_fits : (o : Option json.Json) (d : Data) → option_and_then of_json o ≡ Some d → DataFits d
converted_fits o d e = let c = chained of_json o d e in value_fits c.0 d c.2

pub json_fits : (bytes : List ℕ) (d : Data) → json_of bytes ≡ Some d → DataFits d
json_fits bytes d e =
    converted_fits (option_and_then (λ p. json.if_last p.0 p.1) (json.value max_depth (tokens bytes))) d (tested (is_utf8 bytes) (read bytes) d e).1

-- ---- the parts of values

listed_fit : (ds : Items) → ItemsFit ds → AllFit (listed ds)
listed_fit no_items h = tt
listed_fit (item d ds) h = (h.0, listed_fit ds h.1)

array_fits : (d : Data) (ds : Items) → DataFits d → as_array d ≡ Some ds → ItemsFit ds
array_fits null ds h e = cc
array_fits (boolean b) ds h e = cc
array_fits (number n) ds h e = cc
array_fits (string s) ds h e = cc
array_fits (array es) ds h e = let same : es ≡ ds = cc in subst ItemsFit same h
array_fits (object ms) ds h e = cc

pub list_fits : (d : Data) (ds : List Data) → DataFits d → list_of d ≡ Some ds → AllFit ds
list_fits d ds h e = let m = mapped listed (as_array d) ds e in subst AllFit m.2 (listed_fit m.0 (array_fits d m.0 h m.1))

form_in_fits : (ds : List Data) (f : Form) → AllFit ds → form_in ds ≡ Some f → AllFit f.parts
form_in_fits [] f h e = cc
form_in_fits (d ∷ ds) f h e =
    let m = mapped (λ word. record { word = word; parts = ds }) (as_str d) f e in
    subst (λ (g : Form). AllFit g.parts) m.2 h.1

pub form_fits : (d : Data) (f : Form) → DataFits d → form_of d ≡ Some f → AllFit f.parts
form_fits d f h e = let c = chained form_in (list_of d) f e in form_in_fits c.0 f (list_fits d c.0 h c.1) c.2

two_fit : (ds : List Data) (p : Data × Data) → AllFit ds → two_in ds ≡ Some p → DataFits p.0 × DataFits p.1
two_fit [] p h e = cc
two_fit (a ∷ []) p h e = cc
two_fit (a ∷ b ∷ []) p h e = let same : (a, b) ≡ p = cc in subst (λ (q : Data × Data). DataFits q.0 × DataFits q.1) same (h.0, h.1.0)
two_fit (a ∷ b ∷ c ∷ ds) p h e = cc

pub pair_fits : (d : Data) (p : Data × Data) → DataFits d → pair_of d ≡ Some p → DataFits p.0 × DataFits p.1
pair_fits d p h e = let c = chained two_in (list_of d) p e in two_fit c.0 p (list_fits d c.0 h c.1) c.2

-- ---- the root

by_found : (o : Ordering) (a b c : Option Data) (d : Data) → (a ≡ Some d → DataFits d) → (b ≡ Some d → DataFits d) → (c ≡ Some d → DataFits d) → match_ordering o a b c ≡ Some d → DataFits d
by_found Less a b c d h k l e = h e
by_found Equal a b c d h k l e = k e
by_found Greater a b c d h k l e = l e

member_fits : (k : List ℕ) (ms : Members) (d : Data) → MembersFit ms → get_member k ms ≡ Some d → DataFits d
member_fits k no_members d h e = cc
member_fits k (member l x ms) d h e =
    by_found (slice_cmp nat_cmp k l) (get_member k ms) (Some x) (get_member k ms) d (member_fits k ms d h.1) (λ is. let same : x ≡ d = cc in subst DataFits same h.0)
    (member_fits k ms d h.1) e

get_fits : (k : List ℕ) (d e : Data) → DataFits d → get k d ≡ Some e → DataFits e
get_fits k null e h is = cc
get_fits k (boolean b) e h is = cc
get_fits k (number n) e h is = cc
get_fits k (string s) e h is = cc
get_fits k (array ds) e h is = cc
get_fits k (object ms) e h is = member_fits k ms e h is

-- the members with statements
pub record RootFits (root : Root) : Type 0 where
  pub rules : DataFits root.rules
  pub items : DataFits root.items

members_of : (version depth classes rules items : Option Data) (root : Root) → ((d : Data) → rules ≡ Some d → DataFits d) → ((d : Data) → items ≡ Some d → DataFits d)
    → root_members version depth classes rules items ≡ Some root → RootFits root
members_of (Some v) depth (Some c) (Some r) (Some i) root h k e =
    let same : record { version = v; depth = depth; classes = c; rules = r; items = i } ≡ root = cc in
    subst RootFits same (record { rules = h r refl; items = k i refl })
members_of None depth classes rules items root h k e = cc
members_of (Some v) depth None rules items root h k e = cc
members_of (Some v) depth (Some c) None items root h k e = cc
members_of (Some v) depth (Some c) (Some r) None root h k e = cc

pub root_fits : (d : Data) (root : Root) → DataFits d → root_of d ≡ Some root → RootFits root
root_fits d root h e =
    let c = chained (λ count. if count == wanted_count (get (codes "depth") d)
    then root_members (get (codes "version") d) (get (codes "depth") d) (get (codes "classes") d) (get (codes "rules") d) (get (codes "items") d)
    else None) (member_count d) root e in
    members_of (get (codes "version") d) (get (codes "depth") d) (get (codes "classes") d) (get (codes "rules") d) (get (codes "items") d) root
    (λ x is. get_fits (codes "rules") d x h is) (λ x is. get_fits (codes "items") d x h is)
    (tested (c.0 == wanted_count (get (codes "depth") d))
    (root_members (get (codes "version") d) (get (codes "depth") d) (get (codes "classes") d) (get (codes "rules") d) (get (codes "items") d)) root c.2).1
