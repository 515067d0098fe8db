-- What an index shows, from what its places hold.
use Rattle.std.proofs.Common.{◌≡◌, ◌≢◌, ℕ, ◌+◌, ◌-◌, ◌/◌, ◌<◌, ◌≤◌, Bool, true, false, not, ◌&&◌, ltb, List, length, get_or, set, sym, ap}
use Rattle.std.proofs.Common.{subst, ◌∙◌, inl, inr, arith, count_by}
use Rattle.std.specs.Int.Bits.{bit_xor, xor_self}
use Rattle.std.proofs.lemmas.Bool.{lt-ltb, eq-eqb, ne_eqb}
use Rattle.std.proofs.lemmas.Bool.Decides.{leb_tells}
use Rattle.std.proofs.lemmas.List.{length-set, get_or-set_same, get_or-set_other, set-get_or}
use Rattle.quick_cache_index.specs.Index.{Index, tag_of, home_of, distance, told, holds, is_free, has_token, HasToken, token_count, HasNone}
use Rattle.quick_cache_index.specs.Index.{Leads, KeepsOtherLeads, KeepsAllLeads, LosesToken}
use Rattle.quick_cache_index.specs.IndexGroups.{taken_count, IsGrouped, IsSound, KeepsReached, TakesPlace, capacity_of}
use Rattle.quick_cache_index.proofs.CountedTokens.{equal_or_not, bit, inside-some, taken_count-free, holds-itself, holds-other, place_of}
use Rattle.quick_cache_index.proofs.CountedTokens.{count_by-place, count_by-take, taken_count-take, count_by-leave, taken_count-leave}
use Rattle.quick_cache_index.proofs.CountedTokens.{tag_of-pos}

-- ---- a token comes

-- each place that was taken is as it was
record IsKept (tags tags' tokens tokens' distances distances' : List ℕ)
    (position : ℕ) : Type 0 where
  token : get_or tokens' position 0 ≡ get_or tokens position 0
  tag : get_or tags' position 0 ≡ get_or tags position 0
  far : get_or distances' position 0 ≡ get_or distances position 0

-- the place that was taken has the token, the tag and the distance
record IsTaken (tags' tokens' distances' : List ℕ) (mask hash token position : ℕ) : Type 0 where
  token_is : get_or tokens' position 0 ≡ token
  tag_is : get_or tags' position 0 ≡ tag_of hash
  far_is : get_or distances' position 0 ≡ told (distance (home_of mask hash) position)

module _ (tags tags' tokens tokens' distances distances' reaches reaches' : List ℕ)
    (mask hash token : ℕ)
    (takes : TakesPlace tags tags' tokens tokens' distances distances' reaches reaches' mask hash
    token) where
  kept-take : (position : ℕ) → position ≢ takes.position
      → IsKept tags tags' tokens tokens' distances distances' position
  kept-take position other = record {
    token =
        ap (λ ts. get_or ts position 0) takes.token_is
        ∙ get_or-set_other tokens takes.position position token 0 other;
    tag =
        ap (λ ts. get_or ts position 0) takes.tag_is
        ∙ get_or-set_other tags takes.position position (tag_of hash) 0 other;
    far =
        ap (λ ts. get_or ts position 0) takes.far_is
        ∙ get_or-set_other distances takes.position position _ 0 other;
  }

  taken-take : length tags ≡ length tokens → length distances ≡ length tags
      → IsTaken tags' tokens' distances' mask hash token takes.position
  taken-take long as_long = record {
    token_is =
        ap (λ ts. get_or ts takes.position 0) takes.token_is
        ∙ get_or-set_same tokens takes.position token 0 takes.inside;
    tag_is =
        ap (λ ts. get_or ts takes.position 0) takes.tag_is
        ∙ get_or-set_same tags takes.position (tag_of hash) 0 (omega (arith, takes.inside, long));
    far_is =
        ap (λ ts. get_or ts takes.position 0) takes.far_is
        ∙ get_or-set_same distances takes.position _ 0 (omega (arith, takes.inside, long, as_long));
  }

pub Leads-take : (old new : Index) (hash token : ℕ)
    → TakesPlace old.tags new.tags old.tokens new.tokens old.distances new.distances old.reaches
    new.reaches new.mask hash token → length old.tags ≡ length old.tokens
    → length old.distances ≡ length old.tags → 0 < token → Leads new hash token
Leads-take old new hash token takes long as_long some =
    let at = taken-take old.tags new.tags old.tokens new.tokens old.distances new.distances
    old.reaches new.reaches new.mask hash token takes long as_long in
    record {
      some = some;
      position = takes.position;
      there = at.token_is;
      tag = at.tag_is;
      far = at.far_is;
      reached = takes.reached;
    }

pub KeepsAllLeads-take : (old new : Index) (hash token : ℕ)
    → TakesPlace old.tags new.tags old.tokens new.tokens old.distances new.distances old.reaches
    new.reaches new.mask hash token → new.mask ≡ old.mask → KeepsAllLeads old new
KeepsAllLeads-take old new hash token takes mask h k leads =
    let kept = kept-take old.tags new.tags old.tokens new.tokens old.distances new.distances
    old.reaches new.reaches new.mask hash token takes leads.position
    (λ same. absurd (omega (
      arith,
      leads.some,
      leads.there,
      takes.free,
      ap (λ p. get_or old.tokens p 0) same,
    )))
    in
    let P : ℕ → Type 0 =
    λ m. distance (home_of m h) leads.position ≤ get_or new.reaches (home_of m h) 0 in
    let F : ℕ → Type 0 = λ m. get_or new.distances leads.position 0
    ≡ told (distance (home_of m h) leads.position) in
    let home : ℕ = home_of old.mask h in
    let near : distance home leads.position ≤ get_or new.reaches home 0 =
    omega (arith, leads.reached, takes.grow.1 home) in
    record {
      some = leads.some;
      position = leads.position;
      there = kept.token ∙ leads.there;
      tag = kept.tag ∙ leads.tag;
      far = subst F (sym mask) (kept.far ∙ leads.far);
      reached = subst P (sym mask) near;
    }

-- whether a token is there, by its count
has_token-same : (old new : Index) (token : ℕ)
    → count_by (holds token) new.tokens ≡ count_by (holds token) old.tokens
    → has_token new token ≡ has_token old token
has_token-same old new token same = ap (ltb 0) same

has_token-none : (index : Index) (token : ℕ) → count_by (holds token) index.tokens ≡ 0
    → has_token index token ≡ false
has_token-none index token none = ap (ltb 0) none

pub count_by-absent : (index : Index) (token : ℕ) → ¬ HasToken index token
    → count_by (holds token) index.tokens ≡ 0
count_by-absent index token absent =
    elim (leb_tells 1 (count_by (holds token) index.tokens)) [
      | inl t ↦ absurd (absent (lt-ltb _ _ t.1))
      | inr t ↦ omega (arith, t.1)
    ]

-- an index stays sound when a new token takes a place
pub IsSound-take : (tags tags' tokens tokens' distances distances' reaches reaches' : List ℕ)
    (mask room hash token : ℕ) → IsSound tags tokens distances reaches mask room
    → IsGrouped tags' tokens' reaches' mask
    → TakesPlace tags tags' tokens tokens' distances distances' reaches reaches' mask hash token
    → 0 < token → count_by (holds token) tokens ≡ 0 → 0 < room
    → IsSound tags' tokens' distances' reaches' mask (room - 1)
IsSound-take tags tags' tokens tokens' distances distances' reaches reaches' mask room hash token
    sound sized takes some absent free =
    let long = sound.sized.tagged in
    let at = taken-take tags tags' tokens tokens' distances distances' reaches reaches' mask hash
    token takes long sound.distant.as_long in
    let kept = λ (position : ℕ). kept-take tags tags' tokens tokens' distances distances' reaches
    reaches' mask hash token takes position in
    record {
      sized = sized;
      matched = record {
        taken = λ position tag. elim (equal_or_not position takes.position) [
          | inl same ↦
              omega (arith, some, at.token_is, ap (λ p. get_or tokens' p 0) same)
          | inr other ↦
              let is = kept position other in
              omega (arith, is.token, sound.matched.taken position (omega (arith, tag, is.tag)))
        ];
        bare = λ position tag. elim (equal_or_not position takes.position) [
          | inl same ↦
              absurd (omega (
                arith,
                tag,
                at.tag_is,
                tag_of-pos hash,
                ap (λ p. get_or tags' p 0) same,
              ))
          | inr other ↦
              let is = kept position other in
              is.token ∙ sound.matched.bare position (sym is.tag ∙ tag)
        ];
      };
      distant = record {
        as_long =
            ap length takes.far_is ∙ length-set distances takes.position _
            ∙ sound.distant.as_long
            ∙ sym (ap length takes.tag_is ∙ length-set tags takes.position (tag_of hash));
        free = λ position tag. elim (equal_or_not position takes.position) [
          | inl same ↦
              absurd (omega (
                arith,
                tag,
                at.tag_is,
                tag_of-pos hash,
                ap (λ p. get_or tags' p 0) same,
              ))
          | inr other ↦
              let is = kept position other in
              is.far ∙ sound.distant.free position (sym is.tag ∙ tag)
        ];
      };
      counted =
          omega (
            arith,
            sound.counted,
            ap taken_count takes.token_is,
            taken_count-take tokens takes.position token takes.inside takes.free some,
            ap capacity_of takes.grow.0,
            free,
          );
      once = λ k.
          let counted = ap (count_by (holds k)) takes.token_is
          ∙ count_by-take tokens takes.position token k takes.inside takes.free in
          elim (equal_or_not token k) [
            | inl same ↦
                omega (
                  arith,
                  counted,
                  absent,
                  ap (λ t. count_by (holds t) tokens) same,
                  bit-most (holds k token),
                )
            | inr other ↦
                omega (arith, counted, sound.once k, ap bit (holds-other k token other))
          ];
    }
  where
    bit-most : (b : Bool) → bit b ≤ 1
    bit-most true = omega arith
    bit-most false = omega arith

-- where there is room for a token, a place is free
pub free-from_room : (tags tokens distances reaches : List ℕ) (mask room : ℕ)
    → IsSound tags tokens distances reaches mask room → 0 < room
    → 0 < count_by is_free tokens
free-from_room tags tokens distances reaches mask room sound some =
    omega (arith, sound.counted, sound.sized.sixteen, some, taken_count-free tokens)

-- what a call did with lists that were lent to it, it did with those that they are
pub TakesPlace-lent : (tags tags' tokens tokens' distances distances' reaches reaches' lent_tags
    lent_tokens lent_distances lent_reaches : List ℕ) (mask hash got token : ℕ) → lent_tags ≡ tags
    → lent_tokens ≡ tokens → lent_distances ≡ distances → lent_reaches ≡ reaches → got ≡ token
    → TakesPlace lent_tags tags' lent_tokens tokens' lent_distances distances' lent_reaches
    reaches' mask hash got
    → TakesPlace tags tags' tokens tokens' distances distances' reaches reaches' mask hash token
TakesPlace-lent tags tags' tokens tokens' distances distances' reaches reaches' lent_tags
    lent_tokens lent_distances lent_reaches mask hash got token tags_are tokens_are distances_are
    reaches_are token_is takes =
    let T : List ℕ → Type 0 = λ ts. TakesPlace ts tags' lent_tokens tokens' lent_distances
    distances' lent_reaches reaches' mask hash got in
    let K : List ℕ → Type 0 = λ ts. TakesPlace tags tags' ts tokens' lent_distances distances'
    lent_reaches reaches' mask hash got in
    let D : List ℕ → Type 0 = λ ds. TakesPlace tags tags' tokens tokens' ds distances'
    lent_reaches reaches' mask hash got in
    let R : List ℕ → Type 0 = λ rs. TakesPlace tags tags' tokens tokens' distances distances' rs
    reaches' mask hash got in
    let N : ℕ → Type 0 = λ n. TakesPlace tags tags' tokens tokens' distances distances' reaches
    reaches' mask hash n in
    subst N token_is (subst R reaches_are (subst D distances_are (subst K tokens_are
    (subst T tags_are takes))))

-- ---- a token goes

-- the token that stood at that place is gone, and what is left is reached still
pub record LeavesPlace (tags tags' tokens tokens' distances distances' reaches reaches' : List ℕ)
    (token position : ℕ) : Type 0 where
  pub some : 0 < token
  pub there : get_or tokens position 0 ≡ token
  pub token_is : tokens' ≡ set tokens position 0
  pub tag_is : tags' ≡ set tags position 0
  pub far_is : distances' ≡ set distances position 0
  pub reached : KeepsReached distances' reaches reaches'

-- what a call left of lists that were lent to it, it left of those that they are
pub LeavesPlace-lent : (tags tags' tokens tokens' distances distances' reaches reaches' lent_tags
    lent_tokens lent_distances lent_reaches read : List ℕ) (got token position : ℕ)
    → lent_tags ≡ tags → lent_tokens ≡ tokens → lent_distances ≡ distances
    → lent_reaches ≡ reaches → read ≡ tokens → got ≡ token → 0 < token
    → get_or read position 0 ≡ got → tags' ≡ set lent_tags position 0
    → tokens' ≡ set lent_tokens position 0 → distances' ≡ set lent_distances position 0
    → KeepsReached distances' lent_reaches reaches'
    → LeavesPlace tags tags' tokens tokens' distances distances' reaches reaches' token position
LeavesPlace-lent tags tags' tokens tokens' distances distances' reaches reaches' lent_tags
    lent_tokens lent_distances lent_reaches read got token position tags_are tokens_are
    distances_are reaches_are read_is token_is some found tag_is place_is far_is kept =
    let R : List ℕ → Type 0 = λ rs. KeepsReached distances' rs reaches' in
    record {
      some = some;
      there = ap (λ ts. get_or ts position 0) (sym read_is) ∙ found ∙ token_is;
      token_is = place_is ∙ ap (λ ts. set ts position 0) tokens_are;
      tag_is = tag_is ∙ ap (λ ts. set ts position 0) tags_are;
      far_is = far_is ∙ ap (λ ts. set ts position 0) distances_are;
      reached = subst R reaches_are kept;
    }

kept-leave : (tags tags' tokens tokens' distances distances' reaches reaches' : List ℕ)
    (token place position : ℕ)
    → LeavesPlace tags tags' tokens tokens' distances distances' reaches reaches' token place
    → position ≢ place → IsKept tags tags' tokens tokens' distances distances' position
kept-leave tags tags' tokens tokens' distances distances' reaches reaches' token place position
    leaves other =
    record {
      token =
          ap (λ ts. get_or ts position 0) leaves.token_is
          ∙ get_or-set_other tokens place position 0 0 other;
      tag =
          ap (λ ts. get_or ts position 0) leaves.tag_is
          ∙ get_or-set_other tags place position 0 0 other;
      far =
          ap (λ ts. get_or ts position 0) leaves.far_is
          ∙ get_or-set_other distances place position 0 0 other;
    }

pub KeepsOtherLeads-leave : (old new : Index) (token place : ℕ)
    → LeavesPlace old.tags new.tags old.tokens new.tokens old.distances new.distances old.reaches
    new.reaches token place → new.mask ≡ old.mask → KeepsOtherLeads old new token
KeepsOtherLeads-leave old new token place leaves mask h k off leads =
    let kept = kept-leave old.tags new.tags old.tokens new.tokens old.distances new.distances
    old.reaches new.reaches token place leads.position leaves
    (λ same. off (sym leads.there ∙ ap (λ p. get_or old.tokens p 0) same ∙ leaves.there)) in
    let P : ℕ → Type 0 =
    λ m. distance (home_of m h) leads.position ≤ get_or new.reaches (home_of m h) 0 in
    let F : ℕ → Type 0 = λ m. get_or new.distances leads.position 0
    ≡ told (distance (home_of m h) leads.position) in
    let far = kept.far ∙ leads.far in
    record {
      some = leads.some;
      position = leads.position;
      there = kept.token ∙ leads.there;
      tag = kept.tag ∙ leads.tag;
      far = subst F (sym mask) far;
      reached = subst P (sym mask)
          (leaves.reached (home_of old.mask h) leads.position far leads.reached);
    }

pub LosesToken-leave : (old new : Index) (token place : ℕ)
    → LeavesPlace old.tags new.tags old.tokens new.tokens old.distances new.distances old.reaches
    new.reaches token place → count_by (holds token) old.tokens ≤ 1 → LosesToken old new token
LosesToken-leave old new token place leaves once other =
    let counted : count_by (holds other) new.tokens + bit (holds other token)
    ≡ count_by (holds other) old.tokens =
    ap (λ ts. count_by (holds other) ts + bit (holds other token)) leaves.token_is
    ∙ count_by-leave old.tokens place token other leaves.some leaves.there in
    elim (equal_or_not other token) [
      | inl same ↦
          let one = ap (λ k. bit (holds k token)) same ∙ ap bit (holds-itself token leaves.some) in
          has_token-none new other
          (omega (arith, counted, one, once, ap (λ k. count_by (holds k) old.tokens) same))
          ∙ ap (λ b. not b && has_token old other) (sym (eq-eqb other token same))
      | inr off ↦
          has_token-same old new other
          (omega (arith, counted, ap bit (holds-other other token (λ e. off (sym e)))))
          ∙ ap (λ b. not b && has_token old other) (sym (ne_eqb other token off))
    ]

pub taken_count-leaves : (tags tags' tokens tokens' distances distances' reaches
    reaches' : List ℕ) (token place : ℕ)
    → LeavesPlace tags tags' tokens tokens' distances distances' reaches reaches' token place
    → taken_count tokens' + 1 ≡ taken_count tokens
taken_count-leaves tags tags' tokens tokens' distances distances' reaches reaches' token place
    leaves =
    ap (λ ts. taken_count ts + 1) leaves.token_is
    ∙ taken_count-leave tokens place token leaves.some leaves.there

-- groups stay as they are when places change
pub IsGrouped-as_long : (tags tags' tokens tokens' reaches : List ℕ) (mask : ℕ)
    → IsGrouped tags tokens reaches mask → length tags' ≡ length tags
    → length tokens' ≡ length tokens → IsGrouped tags' tokens' reaches mask
IsGrouped-as_long tags tags' tokens tokens' reaches mask sized tags_as_long tokens_as_long =
    record {
      groups = sized.groups;
      sixteen = tokens_as_long ∙ sized.sixteen;
      tagged = tags_as_long ∙ sized.tagged ∙ sym tokens_as_long;
      power = sized.power;
      few = sized.few;
      near = sized.near;
    }

-- an index stays sound when a token leaves its place
pub IsSound-leave : (tags tags' tokens tokens' distances distances' reaches reaches' : List ℕ)
    (mask room more token place : ℕ) → IsSound tags tokens distances reaches mask room
    → IsGrouped tags' tokens' reaches' mask
    → LeavesPlace tags tags' tokens tokens' distances distances' reaches reaches' token place
    → length reaches' ≡ length reaches → more ≡ room + 1
    → IsSound tags' tokens' distances' reaches' mask more
IsSound-leave tags tags' tokens tokens' distances distances' reaches reaches' mask room more token
    place sound sized leaves groups grown =
    let inside : place < length tokens =
    inside-some tokens place (omega (arith, leaves.some, leaves.there)) in
    let gone : get_or tokens' place 0 ≡ 0 =
    ap (λ ts. get_or ts place 0) leaves.token_is ∙ get_or-set_same tokens place 0 0 inside in
    let untagged : get_or tags' place 0 ≡ 0 =
    ap (λ ts. get_or ts place 0) leaves.tag_is
    ∙ get_or-set_same tags place 0 0 (omega (arith, inside, sound.sized.tagged)) in
    let at_none : get_or distances' place 0 ≡ 0 =
    ap (λ ts. get_or ts place 0) leaves.far_is ∙ get_or-set_same distances place 0 0
    (omega (arith, inside, sound.sized.tagged, sound.distant.as_long)) in
    let kept = λ (position : ℕ). kept-leave tags tags' tokens tokens' distances distances' reaches
    reaches' token place position leaves in
    record {
      sized = sized;
      matched = record {
        taken = λ position tag. elim (equal_or_not position place) [
          | inl same ↦
              absurd (omega (arith, tag, untagged, ap (λ p. get_or tags' p 0) same))
          | inr other ↦
              let is = kept position other in
              omega (arith, is.token, sound.matched.taken position (omega (arith, tag, is.tag)))
        ];
        bare = λ position tag. elim (equal_or_not position place) [
          | inl same ↦ ap (λ p. get_or tokens' p 0) same ∙ gone
          | inr other ↦
              let is = kept position other in
              is.token ∙ sound.matched.bare position (sym is.tag ∙ tag)
        ];
      };
      distant = record {
        as_long =
            ap length leaves.far_is ∙ length-set distances place 0 ∙ sound.distant.as_long
            ∙ sym (ap length leaves.tag_is ∙ length-set tags place 0);
        free = λ position tag. elim (equal_or_not position place) [
          | inl same ↦ ap (λ p. get_or distances' p 0) same ∙ at_none
          | inr other ↦
              let is = kept position other in
              is.far ∙ sound.distant.free position (sym is.tag ∙ tag)
        ];
      };
      counted =
          omega (
            arith,
            sound.counted,
            grown,
            ap capacity_of groups,
            taken_count-leaves tags tags' tokens tokens' distances distances' reaches reaches'
                token place leaves,
          );
      once = λ k. omega (
        arith,
        sound.once k,
        ap (λ ts. count_by (holds k) ts + bit (holds k token)) leaves.token_is,
        count_by-leave tokens place token k leaves.some leaves.there,
      );
    }

-- a token that is there once stands at one place
one_place : (tokens : List ℕ) (token p q : ℕ) → 0 < token → count_by (holds token) tokens ≤ 1
    → get_or tokens p 0 ≡ token → get_or tokens q 0 ≡ token → p ≡ q
one_place tokens token p q some once at_p at_q =
    elim (equal_or_not q p) [
      | inl same ↦ sym same
      | inr other ↦
          let left = count_by-place (set tokens p 0) q token some
          (get_or-set_other tokens p q 0 0 other ∙ at_q) in
          absurd (omega (
            arith,
            once,
            left,
            count_by-leave tokens p token token some at_p,
            ap bit (holds-itself token some),
          ))
    ]

-- a token that is found in the group of its home has no distance
pub distances-at_home : (index : Index) (hash token position : ℕ) → Leads index hash token
    → count_by (holds token) index.tokens ≤ 1 → get_or index.tokens position 0 ≡ token
    → position / 16 ≡ home_of index.mask hash → index.distances ≡ set index.distances position 0
distances-at_home index hash token position leads once found at_home =
    let same = one_place index.tokens token leads.position position leads.some once leads.there
    found in
    let home = home_of index.mask hash in
    let none : distance home position ≡ 0 = ap (bit_xor home) at_home ∙ xor_self home in
    let far : get_or index.distances position 0 ≡ 0 =
    subst (λ p. get_or index.distances p 0 ≡ told (distance home p)) same leads.far
    ∙ ap told none in
    sym (set-get_or index.distances position 0) ∙ ap (set index.distances position) far

-- ---- no token is there

pub HasNone-count : (index : Index) → token_count index ≡ 0 → HasNone index
HasNone-count index none token =
    elim (leb_tells 1 (count_by (holds token) index.tokens)) [
      | inl t ↦
          let at = place_of index.tokens token t.1 in
          let taken = position_taken index.tokens at.1 token at.0 at.2 in
          absurd (omega (arith, none, taken))
      | inr t ↦ has_token-none index token (omega (arith, t.1))
    ]
  where
    position_taken : (tokens : List ℕ) (position token : ℕ) → 0 < token
        → get_or tokens position 0 ≡ token → 0 < taken_count tokens
    position_taken tokens position token some there =
        omega (arith, taken_count-leave tokens position token some there)
