-- Round after round of a hot advance, up to a victim, over the contents of a cache.
use Rattle.std.proofs.Common.{◌≡◌, ℕ, ◌+◌, ◌^◌, ◌<◌, Bool, true, false, length, refl, ◌∙◌, subst}
use Rattle.quick_cache_model.specs.declared.queue.Queue.{Queue}
use Rattle.quick_cache_store.specs.Views.{items_of}
use Rattle.quick_cache_policy.specs.declared.contents.Contents.{Contents}
use Rattle.quick_cache_policy.specs.declared.evicting.hot.Round.{Round}
use Rattle.quick_cache_policy.specs.Contents.{IsSound}
use Rattle.quick_cache_policy.specs.HotRounds.{VisitsHot, RoundEnds, SeekEnds}
use Rattle.quick_cache_policy.specs.Places.{places_in, LosesOnly}
use Rattle.quick_cache_policy.specs.Rounds.{Advancing, HaveAtMost, advance_measure}
use Rattle.quick_cache_policy.proofs.AdvanceLemmas.{advance-begins, advance-goes_on, advance-stops, advance-gives_up}
use Rattle.quick_cache_policy.proofs.HotRoundLemmas.{ChangesHot, ChangesHot-none, ChangesHot-cut, ChangesHot-then, RoundDone}
use Rattle.quick_cache_policy.proofs.KeptLemmas.{HaveAtMost-ring}
use Rattle.quick_cache_policy.proofs.MarkLemmas.{advance_measure-falls}

module _ {K V P W A T : Type 0} (ticket_of : P → ℕ) (equal : K → K → Bool) (hash : K → ℕ)
    (steady : Type 0) (pinned : K → V → Bool) (may_count : ℕ → Type 0) where
  -- Between two rounds: the touches that are still to be taken, and what the rounds so far did.
  pub record SeeksVictim (takes_touches : Bool) (old now : Contents K V W A T P) : Type 0 where
    pub visits : ℕ
    pub advancing : Advancing steady pinned takes_touches old.mark_cut may_count
        (items_of old.lists.hot) (items_of now.lists.hot) visits
    pub changes : ChangesHot hash visits old now
    pub sound : IsSound ticket_of equal hash now
    pub count : length now.lists.hot ≡ length old.lists.hot

  -- what the rounds did, with the answer
  pub record SeekDone (met : Bool) (old new : Contents K V W A T P) : Type 0 where
    pub ends : VisitsHot (SeekEnds steady pinned old.mark_cut may_count met) old new
    pub sound : IsSound ticket_of equal hash new
    pub count : length new.lists.hot ≡ length old.lists.hot
    pub places : LosesOnly (places_in old.lists.hot) (places_in new.lists.hot)
    pub same : new ≡ record old {
      lists = record old.lists { hot = new.lists.hot };
      visits = new.visits;
    }

  -- no round was made yet
  pub SeeksVictim-begins : (old : Contents K V W A T P) → may_count 0
      → IsSound ticket_of equal hash old → old.visits < 2 ^ 64 → SeeksVictim true old old
  SeeksVictim-begins old none_counted sound within = record {
    visits = 0;
    advancing = advance-begins steady pinned old.mark_cut may_count none_counted
        (items_of old.lists.hot);
    changes = ChangesHot-none hash old sound.hashed.hot within;
    sound = sound;
    count = refl;
  }

  -- the marks of sound contents are at most the greatest
  HaveAtMost-sound : (old : Contents K V W A T P) → IsSound ticket_of equal hash old
      → HaveAtMost old.mark_cut (items_of old.lists.hot)
  HaveAtMost-sound old sound = HaveAtMost-ring old.mark_cut Queue.Hot (items_of old.lists.hot)
      sound.valid.in_hot

  -- what a round did, as a change
  ChangesHot-round : (takes_touches : Bool) (end : Round) (old new : Contents K V W A T P)
      → (done : RoundDone hash steady pinned takes_touches may_count ticket_of equal end old new)
      → ChangesHot hash done.ends.visits old new
  ChangesHot-round takes_touches end old new done = record {
    hashed = done.sound.hashed.hot;
    counted = done.ends.counted;
    places = done.places;
    same = done.same;
  }

  -- what a later round did, by the greatest mark of the beginning
  ends-by : (takes_touches : Bool) (end : Round) (visits : ℕ) (old now new : Contents K V W A T P)
      → ChangesHot hash visits old now
      → (done : RoundDone hash steady pinned takes_touches may_count ticket_of equal end now new)
      → RoundEnds steady pinned takes_touches old.mark_cut may_count end (items_of now.lists.hot)
      (items_of new.lists.hot) done.ends.visits
  ends-by takes_touches end visits old now new changes done =
      subst (λ n. RoundEnds steady pinned takes_touches n may_count end (items_of now.lists.hot)
      (items_of new.lists.hot) done.ends.visits) (ChangesHot-cut hash visits old now changes)
      done.ends.ends

  -- a round that met a marked item was not the last
  pub SeeksVictim-goes_on : (takes_touches : Bool) (old now new : Contents K V W A T P)
      → IsSound ticket_of equal hash old → SeeksVictim takes_touches old now
      → RoundDone hash steady pinned takes_touches may_count ticket_of equal Round.SomeUnpinned
      now new
      → SeeksVictim false old new
  SeeksVictim-goes_on takes_touches old now new sound seeks done = record {
    visits = seeks.visits + done.ends.visits;
    advancing = advance-goes_on steady pinned old.mark_cut may_count takes_touches
        (items_of old.lists.hot) (items_of now.lists.hot) (items_of new.lists.hot) seeks.visits
        done.ends.visits (HaveAtMost-sound old sound) seeks.advancing
        (ends-by takes_touches Round.SomeUnpinned seeks.visits old now new seeks.changes done);
    changes = ChangesHot-then hash seeks.visits done.ends.visits old now new seeks.changes
        (ChangesHot-round takes_touches Round.SomeUnpinned now new done);
    sound = done.sound;
    count = done.count ∙ seeks.count;
  }

  -- and there are not many such rounds
  pub advance_measure-seeks : (takes_touches : Bool) (old now new : Contents K V W A T P)
      → SeeksVictim takes_touches old now
      → RoundDone hash steady pinned takes_touches may_count ticket_of equal Round.SomeUnpinned
      now new
      → advance_measure false new.mark_cut (items_of new.lists.hot)
      < advance_measure takes_touches now.mark_cut (items_of now.lists.hot)
  advance_measure-seeks takes_touches old now new seeks done =
      advance_measure-falls now.mark_cut may_count steady pinned takes_touches
      (items_of now.lists.hot) (items_of new.lists.hot) done.ends.visits
      (HaveAtMost-sound now seeks.sound) done.ends.ends

  -- a round that met a victim was the last
  pub SeeksVictim-stops : (takes_touches : Bool) (old now new : Contents K V W A T P)
      → SeeksVictim takes_touches old now
      → RoundDone hash steady pinned takes_touches may_count ticket_of equal Round.Victim now new
      → SeekDone true old new
  SeeksVictim-stops takes_touches old now new seeks done =
      let changes = ChangesHot-then hash seeks.visits done.ends.visits old now new seeks.changes
      (ChangesHot-round takes_touches Round.Victim now new done) in
      record {
        ends = record {
          visits = seeks.visits + done.ends.visits;
          ends = advance-stops steady pinned old.mark_cut may_count takes_touches
              (items_of old.lists.hot) (items_of now.lists.hot) (items_of new.lists.hot)
              seeks.visits done.ends.visits seeks.advancing
              (ends-by takes_touches Round.Victim seeks.visits old now new seeks.changes done);
          counted = changes.counted;
        };
        sound = done.sound;
        count = done.count ∙ seeks.count;
        places = changes.places;
        same = changes.same;
      }

  -- and so was one that found all pinned
  pub SeeksVictim-gives_up : (takes_touches : Bool) (old now new : Contents K V W A T P)
      → SeeksVictim takes_touches old now
      → RoundDone hash steady pinned takes_touches may_count ticket_of equal Round.AllPinned
      now new
      → SeekDone false old new
  SeeksVictim-gives_up takes_touches old now new seeks done =
      let changes = ChangesHot-then hash seeks.visits done.ends.visits old now new seeks.changes
      (ChangesHot-round takes_touches Round.AllPinned now new done) in
      record {
        ends = record {
          visits = seeks.visits + done.ends.visits;
          ends = advance-gives_up steady pinned old.mark_cut may_count takes_touches
              (items_of old.lists.hot) (items_of now.lists.hot) (items_of new.lists.hot)
              seeks.visits done.ends.visits seeks.advancing
              (ends-by takes_touches Round.AllPinned seeks.visits old now new seeks.changes done);
          counted = changes.counted;
        };
        sound = done.sound;
        count = done.count ∙ seeks.count;
        places = changes.places;
        same = changes.same;
      }
