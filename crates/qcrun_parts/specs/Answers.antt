-- The answers that are printed, and their texts.
use Rattle.std.specs.Prelude.{ℕ, true, false, List, ◌++◌, Some, None, codes}
use Rattle.std.specs.Fmt.{decimal}
use Rattle.std.specs.declared.alloc.Global.{Global}
use Rattle.quick_cache_model.specs.declared.refusal.Refusal.{Refusal}
use Rattle.quick_cache_model.specs.declared.calls.reply.Reply.{Reply}
use Rattle.qcrun_parts.specs.declared.reply.Answer.{Answer}

-- The answer that stands for a reply. Of a pair that comes back for a refusal the reason is told.
abbrev pub answer_of : Reply ℕ ℕ Global → Answer
answer_of Reply.Done = Answer.Done
answer_of (Reply.RefusedPair key value refusal) = Answer.Refused refusal
answer_of (Reply.NotAdmitted key value) = Answer.NotAdmitted key value
answer_of (Reply.Value (Some value)) = Answer.Value value
answer_of (Reply.Value None) = Answer.Nothing
answer_of (Reply.Flag true) = Answer.Done
answer_of (Reply.Flag false) = Answer.Nothing
answer_of (Reply.Stats (Some reads)) = Answer.Reads reads
answer_of (Reply.Stats None) = Answer.Nothing
answer_of (Reply.Pair (Some pair)) = Answer.Pair pair.0 pair.1
answer_of (Reply.Pair None) = Answer.Nothing
answer_of (Reply.Found value) = Answer.Value value
answer_of (Reply.Loaded true) = Answer.Loaded
answer_of (Reply.Loaded false) = Answer.NotKept
answer_of Reply.LoadFailed = Answer.Failed
answer_of Reply.Filled = Answer.Filled
answer_of Reply.Dropped = Answer.Dropped
answer_of (Reply.Pairs pairs) = Answer.Done
answer_of (Reply.Counts len weight capacity hits misses) = Answer.LookUps hits misses
answer_of (Reply.Refused refusal) = Answer.Refused refusal

-- the word for what was wanting
abbrev pub word_of : Refusal → List ℕ
word_of Refusal.Memory = codes "memory"
word_of Refusal.SlotsFull = codes "slots"
word_of Refusal.TicketsSpent = codes "tickets"
word_of Refusal.Finished = codes "finished"

-- the text of an answer
abbrev pub text_of : Answer → List ℕ
text_of Answer.Done = codes "ok"
text_of (Answer.Value value) = codes "some " ++ decimal value
text_of (Answer.Pair key value) = codes "some " ++ decimal key ++ codes " " ++ decimal value
text_of (Answer.NotAdmitted key value) =
    codes "not admitted " ++ decimal key ++ codes " " ++ decimal value
text_of Answer.Nothing = codes "none"
text_of (Answer.Reads reads) = codes "reads " ++ decimal reads
text_of (Answer.LookUps hits misses) =
    codes "hits " ++ decimal hits ++ codes " misses " ++ decimal misses
text_of Answer.Loaded = codes "loaded"
text_of Answer.NotKept = codes "not kept"
text_of Answer.Failed = codes "error"
text_of Answer.Filled = codes "filled"
text_of Answer.Dropped = codes "dropped"
text_of (Answer.Refused refusal) = codes "refused " ++ word_of refusal
text_of (Answer.Fault text) = codes "options: " ++ text
