-- The search of the cold ring, item by item.
use Rattle.std.proofs.Common.{◌≡◌, ℕ, ◌+◌, ◌<◌, Bool, List, [], ◌∷◌, ◌++◌, length, refl, sym, ap, subst, ◌∙◌, arith, append_assoc}
use Rattle.std.proofs.Common.{length-append}
use Rattle.std.specs.List.{AllByRecursion}
use Rattle.std.proofs.lemmas.List.{append-nil}
use Rattle.quick_cache_model.specs.CacheState.{Item}
use Rattle.quick_cache_model.specs.Touches.{RaisesMarks}
use Rattle.quick_cache_model.proofs.EachElement.{all-push}
use Rattle.quick_cache_model.proofs.TouchLaws.{RaisesMarks-same}
use Rattle.quick_cache_store.specs.Lists.{turned}
use Rattle.quick_cache_policy.specs.declared.evicting.cold.Search.{Search}
use Rattle.quick_cache_policy.proofs.MarkLemmas.{RaisesMarks-append}
use Rattle.quick_cache_policy.specs.Advances.{IsPassedBy, IsFound, LooksAt, StopsAt, Searches}

-- a look changes no number of items
pub LooksAt-length : {K V : Type 0} {steady : Type 0} {pinned : K → V → Bool}
    {cut : ℕ} {may_count : ℕ → Type 0} {old new : List (Item K V)} {answer : Search}
    → LooksAt steady pinned cut may_count old answer new → length new ≡ length old
LooksAt-length {K = K} {V = V} looks =
    ap (length {A = Item K V}) looks.looked ∙ sym (ap (length {A = Item K V}) looks.split)

module _ {K V : Type 0} (steady : Type 0) (pinned : K → V → Bool) (cut : ℕ)
    (may_count : ℕ → Type 0) (old : List (Item K V)) where
  -- so many items were passed by, and stand behind the rest with the touches that they took
  pub record HasPassed (passed : ℕ) (now : List (Item K V)) : Type 0 where
    pub olds : List (Item K V)
    pub news : List (Item K V)
    pub rest : List (Item K V)
    pub split : old ≡ olds ++ rest
    pub count : length olds ≡ passed
    pub raised : RaisesMarks cut may_count olds news
    pub passed_by : AllByRecursion (IsPassedBy steady pinned) news
    pub now_is : now ≡ rest ++ news

  -- none was passed by yet
  pub HasPassed-none : HasPassed 0 old
  HasPassed-none = record {
    olds = [];
    news = [];
    rest = old;
    split = refl;
    count = refl;
    raised = tt;
    passed_by = tt;
    now_is = sym (append-nil old);
  }

  module _ (passed : ℕ) (now : List (Item K V)) (has : HasPassed passed now) where
    -- the next one, while there is one
    record HasNext (item : Item K V) (rest : List (Item K V)) : Type 0 where
      left : List (Item K V)
      stands : has.rest ≡ item ∷ left
      rest_is : rest ≡ left ++ has.news

    next : (item : Item K V) (rest : List (Item K V)) → now ≡ item ∷ rest → passed < length old
        → HasNext item rest
    next item rest split more = go has.rest refl
      where
        go : (left : List (Item K V)) → has.rest ≡ left → HasNext item rest
        go [] none = absurd (omega (
          arith,
          more,
          has.count,
          ap (length {A = Item K V}) has.split,
          ap (length {A = Item K V}) none,
          length-append has.olds has.rest,
        ))
        go (x ∷ xs) some =
            let both : item ∷ rest ≡ x ∷ (xs ++ has.news) =
            sym split ∙ has.now_is ∙ ap (λ l. l ++ has.news) some in
            let first : x ≡ item = cc in
            record {
              left = xs;
              stands = some ∙ ap (λ i. i ∷ xs) first;
              rest_is = cc;
            }

    -- one more was passed by, and the ring turned
    pub HasPassed-more : (new : List (Item K V)) → passed < length old
        → LooksAt steady pinned cut may_count now Search.AllPassed new
        → HasPassed (passed + 1) (turned new)
    HasPassed-more new more looks =
        let n = next looks.item looks.rest looks.split more in record {
          olds = has.olds ++ looks.item ∷ [];
          news = has.news ++ looks.touched ∷ [];
          rest = n.left;
          split = has.split ∙ ap (λ l. has.olds ++ l) n.stands
              ∙ sym (append_assoc has.olds (looks.item ∷ []) n.left);
          count = omega (arith, has.count, length-append has.olds (looks.item ∷ []));
          raised = RaisesMarks-append cut may_count has.olds has.news
              (looks.item ∷ []) (looks.touched ∷ []) has.raised (looks.takes, tt);
          passed_by = all-push (IsPassedBy steady pinned) has.news looks.touched has.passed_by
              looks.finds;
          now_is = ap turned looks.looked ∙ ap (λ l. l ++ looks.touched ∷ []) n.rest_is
              ∙ append_assoc n.left has.news (looks.touched ∷ []);
        }

    -- the ring, once the items that were looked at took their touches
    stopped : (found : Item K V → Type 0) (answer : Search) (new : List (Item K V)) → may_count 0
        → passed < length old → (looks : LooksAt steady pinned cut may_count now answer new)
        → found looks.touched
        → (cold : List (Item K V)) × RaisesMarks cut may_count old
        cold × StopsAt steady pinned found cold new
    stopped found answer new none more looks is =
        let n = next looks.item looks.rest looks.split more in (
          has.news ++ looks.touched ∷ n.left,
          subst (λ l. RaisesMarks cut may_count l (has.news ++ looks.touched ∷ n.left))
              (sym (has.split ∙ ap (λ l. has.olds ++ l) n.stands))
              (RaisesMarks-append cut may_count has.olds has.news (looks.item ∷ n.left)
              (looks.touched ∷ n.left) has.raised
              (looks.takes, RaisesMarks-same cut may_count none n.left)),
          record {
            before = has.news;
            item = looks.touched;
            after = n.left;
            split = refl;
            passed = has.passed_by;
            meets = is;
            turned = looks.looked ∙ ap (λ l. looks.touched ∷ l) n.rest_is;
          },
        )

    -- the search stops at a marked item
    pub HasPassed-marked : (new : List (Item K V)) → may_count 0 → passed < length old
        → LooksAt steady pinned cut may_count now Search.Marked new
        → Searches steady pinned cut may_count old Search.Marked new
    HasPassed-marked new none more looks =
        let s = stopped (λ item. IsFound steady pinned item Search.Marked) Search.Marked new none
        more looks
        looks.finds in record { cold = s.0; raised = s.1; ends = s.2 }

    -- or at one that is neither marked nor pinned
    pub HasPassed-victim : (new : List (Item K V)) → may_count 0 → passed < length old
        → LooksAt steady pinned cut may_count now Search.Victim new
        → Searches steady pinned cut may_count old Search.Victim new
    HasPassed-victim new none more looks =
        let s = stopped (λ item. IsFound steady pinned item Search.Victim) Search.Victim new none
        more looks
        looks.finds in record { cold = s.0; raised = s.1; ends = s.2 }

    -- in each case the search has ended
    pub HasPassed-found : (answer : Search) (new : List (Item K V))
        → (answer ≡ Search.AllPassed → ⊥)
        → may_count 0 → passed < length old → LooksAt steady pinned cut may_count now answer new
        → Searches steady pinned cut may_count old answer new
    HasPassed-found Search.Marked new found none more looks = HasPassed-marked new none more looks
    HasPassed-found Search.Victim new found none more looks = HasPassed-victim new none more looks
    HasPassed-found Search.AllPassed new found none more looks = absurd (found refl)
