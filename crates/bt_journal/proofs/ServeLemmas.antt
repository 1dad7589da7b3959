-- What a program is told is what the plain book tells it, or that an allocation failed.
use Rattle.std.proofs.Common.{◌≡◌, ℕ, Bool, true, false, List, Option, Some, None, Result, Ok, Err, IfOk, IsOk, refl, sym, ◌∙◌, ap}
use Rattle.std.specs.declared.alloc.AllocError.{AllocError}
use Rattle.bt_insn.specs.declared.load_store.Size.{Size}
use Rattle.bt_mapkind.specs.declared.errno.Errno.TheVariants.{ENOMEM}
use Rattle.bt_mapkind.specs.declared.request.Query.TheVariants.{Lookup, Peek}
use Rattle.program_access.specs.declared.reply.AccessReply.{AccessReply}
use Rattle.program_access.specs.declared.reply.AccessReply.TheVariants as told
use Rattle.host_state.specs.declared.ask.Ask.TheVariants.{Attr, Map}
use Rattle.host_state.specs.declared.ask.AskReply.{AskReply}
use Rattle.host_state.specs.declared.change.Change.{Change}
use Rattle.host_state.specs.declared.reply.Reply.{Reply}
use Rattle.host_state.specs.declared.reply.Refusal.{Refusal}
use Rattle.host_state.specs.declared.reply.Refusal.TheVariants.{NoMemory}
use Rattle.journal_model.specs.Book.{PlainBook, recorded, asked, OrNoMemory}
use Rattle.journal_model.specs.Serve.{pointer_refusal, helper_refusal, change_told, in_words, by_pointer, by_helper, is_live_at, told_unless, load_fault, load_read, loaded, lookup_fault, lookup_read, looked_up, peek_told, peeked, OrWant}
use Rattle.host_state.specs.State.{HostMap, State}
use Rattle.host_state.specs.Act.{live_map, attr_if_live}
use Rattle.host_state.specs.Ask.{ask}
use Rattle.host_state.proofs.Asked.{attr_of}
use Rattle.journal_access.specs.Serving.{told_or, attr_reply}

-- ---- changes
pub pointer_so : (old new : PlainBook) (change : Change) (result : Result (ℕ × Reply) Refusal) (answer : AccessReply) → OrNoMemory old NoMemory (recorded old change None) (new, result)
    → answer ≡ change_told pointer_refusal result → OrWant old told.Refused (by_pointer old change) (new, answer)
pointer_so old new change result answer (true, e) is = (true, (λ i. (new, is i)) ∙ ap (in_words pointer_refusal) e)
pointer_so old new change result answer (false, e) is = (false, (λ i. (new, is i)) ∙ ap (in_words pointer_refusal) e)

pub helper_so : (old mid new : PlainBook) (id : ℕ) (change : Change) (live : Bool) (result : Result (ℕ × Reply) Refusal) (answer : AccessReply) → mid ≡ old → live ≡ is_live_at old id
    → OrNoMemory mid NoMemory (recorded mid change None) (new, result) → answer ≡ change_told (helper_refusal live) result → OrWant old (told.Errno ENOMEM) (by_helper old id change) (new, answer)
helper_so old mid new id change live result answer same live_is (true, e) is =
    (true, (λ i. (new, is i)) ∙ ap (in_words (helper_refusal live)) e ∙ (λ i. (same i, told.Errno ENOMEM)))
helper_so old mid new id change live result answer same live_is (false, e) is =
    (false, (λ i. (new, is i)) ∙ ap (in_words (helper_refusal live)) e ∙ (λ i. in_words (helper_refusal (live_is i)) (recorded (same i) change None)))

-- ---- questions
attr_of_some : (m : Option HostMap) → attr_reply (attr_if_live m) ≡ attr_of m
attr_of_some None = refl
attr_of_some (Some m) = refl

pub attr_is : (s : State) (id : ℕ) → attr_reply (attr_if_live (live_map s id)) ≡ ask s (Attr id)
unfolding ask
attr_is s id = attr_of_some (live_map s id)

pub read_so : (old new : PlainBook) (want does : AccessReply) (result : Result AccessReply AllocError) (answer : AccessReply) → IfOk result (λ it. it ≡ does) → new ≡ old → answer ≡ told_or result want
    → OrWant old want (old, does) (new, answer)
read_so old new want does (Ok it) answer tells same is = (false, λ i. (same i, (is ∙ tells) i))
read_so old new want does (Err fault) answer tells same is = (true, λ i. (same i, is i))

pub read_sure : (old new : PlainBook) (want does : AccessReply) (result : Result AccessReply AllocError) (answer : AccessReply) → IfOk result (λ it. it ≡ does) → IsOk result → new ≡ old → answer ≡ told_or result want
    → ◌≡◌ {A = PlainBook × AccessReply} (new, answer) (old, does)
read_sure old new want does (Ok it) answer tells read same is = λ i. (same i, (is ∙ tells) i)
read_sure old new want does (Err fault) answer tells read same is = absurd (cc read)

-- what stands against it is told, or else what is read
unless_some : (o : Option AccessReply) (fault read : AccessReply) → o ≡ Some fault → fault ≡ told_unless o read
unless_some o fault read e = sym (ap (λ (x : Option AccessReply). told_unless x read) e)

unless_none : (o : Option AccessReply) (read : AccessReply) → o ≡ None → read ≡ told_unless o read
unless_none o read e = sym (ap (λ (x : Option AccessReply). told_unless x read) e)

pub load_faulty : (old : PlainBook) (id : ℕ) (key : List ℕ) (offset : ℕ) (size : Size) (attr : AskReply) (fault : AccessReply) → attr ≡ asked old (Attr id) → load_fault attr ≡ Some fault → fault ≡ loaded old id key offset size
load_faulty old id key offset size attr fault is e = unless_some (load_fault (asked old (Attr id))) fault (load_read key offset size (asked old (Map id (Lookup key)))) (ap load_fault (sym is) ∙ e)

pub load_so : (old mid : PlainBook) (id : ℕ) (key : List ℕ) (offset : ℕ) (size : Size) (attr found : AskReply) (answer : AccessReply) → mid ≡ old → attr ≡ asked old (Attr id) → load_fault attr ≡ None
    → found ≡ asked mid (Map id (Lookup key)) → answer ≡ load_read key offset size found → answer ≡ loaded old id key offset size
load_so old mid id key offset size attr found answer same is e found_is answer_is =
    answer_is
    ∙ ap (load_read key offset size) (found_is ∙ ap (λ b. asked b (Map id (Lookup key))) same)
    ∙ unless_none (load_fault (asked old (Attr id))) (load_read key offset size (asked old (Map id (Lookup key)))) (ap load_fault (sym is) ∙ e)

pub lookup_faulty : (old : PlainBook) (id : ℕ) (key : List ℕ) (attr : AskReply) (fault : AccessReply) → attr ≡ asked old (Attr id) → lookup_fault attr ≡ Some fault → fault ≡ looked_up old id key
lookup_faulty old id key attr fault is e = unless_some (lookup_fault (asked old (Attr id))) fault (lookup_read old (asked old (Map id (Lookup key)))) (ap lookup_fault (sym is) ∙ e)

pub peek_so : (old mid : PlainBook) (id : ℕ) (live : Bool) (item : AskReply) (answer : AccessReply) → mid ≡ old → live ≡ is_live_at old id → item ≡ asked mid (Map id Peek) → answer ≡ peek_told live item → answer ≡ peeked old id
peek_so old mid id live item answer same live_is item_is answer_is =
    answer_is ∙ (λ i. peek_told (live_is i) ((item_is ∙ ap (λ b. asked b (Map id Peek)) same) i))
