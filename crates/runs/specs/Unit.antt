-- The unit: what each call answers and what it leaves, for every page format and every eviction policy.
use Rattle.std.specs.Prelude.{ℕ, zero, suc, ◌+◌, ◌%◌, ◌^◌, Bool, false, cond, ◌&&◌, ◌||◌, List, [], ◌∷◌, is_some, Some, None, Option, ◌==◌, nat_le, nat_lt}
use Rattle.std.specs.Option.{unwrap_or}
use Rattle.memory.specs.Answers.{Answer}
use Rattle.memory.specs.Memory.{Memory, has_words, stored}
use Rattle.paging.specs.Formats.{Format}
use Rattle.paging.specs.Terms.{directory_level, is_table, store, supervisor}
use Rattle.walk.specs.Marking.{Write, due, put_all}
use Rattle.walk.specs.Walk.{Asked, Failure, Outcome, directory_index, faulted, reached, table_index, walk_from, word_index}
use Rattle.policies.specs.Orders.{Rule, first_permitted, numbered}
use Rattle.hits.specs.Hits.{copied_at, copied_words, hit_of}
use Rattle.shadow.specs.Slots.{check_table, drop_entry, evict, fill, find_slot, first_empty, flag_off_at, fresh, guard, is_directory, is_protected, is_unsynchronised, permitted, place_at, put_place, set_sync, shadow_at}
use Rattle.slot.specs.Slot.{shadows}
use Rattle.hits.specs.declared.hits.Copied.{Copied}
use Rattle.slot.specs.declared.slots.Place.{Place}
use Rattle.slot.specs.declared.slots.Place.TheVariants.{Empty, Link, Leaf, Piece}
use Rattle.slot.specs.declared.slots.Shadow.{Shadow}
use Rattle.slot.specs.declared.slots.Shadow.TheVariants.{Nothing, Directory, Table, Split}
use Rattle.shadow.specs.declared.slots.SlotTable.{SlotTable}
use Rattle.slot.specs.declared.slots.SyncState.TheVariants.{Unsynchronised}
use Rattle.slot.specs.declared.slots.Thing.{Thing}
use Rattle.slot.specs.declared.slots.Thing.TheVariants as thing
use Rattle.runs.specs.Histories.{store_of}
use Rattle.runs.specs.Laws.{word_at}
use Rattle.runs.specs.Terms.{Call, Reply, Tallies, Through, access, close_run, closed, deliver, done, flush, flush_all, flush_page, give_up, hidden, no_exit, open_run, poke, refused, set_mode, switch, switch_root, through, trace, true_exit}
use Rattle.runs.specs.Terms as reply

-- STATE

-- What the guest was last told of a fault: its address and its code.
pub record RecordedFault : Type 0 where
  pub address : ℕ
  pub code : ℕ

-- What belongs to the processor.
pub record Hart : Type 0 where
  pub root : ℕ
  pub mode : ℕ
  -- the fault that waits to be settled
  pub pending : Option Failure
  pub last : Option RecordedFault
  pub tallies : Tallies

-- A run: the slots, the policy's order of them, and the processor.
pub record Running : Type 0 where
  pub table : SlotTable
  pub order : List ℕ
  pub hart : Hart

-- A machine: its memory, and the run that is open, if any.
pub record State : Type 0 where
  pub memory : Memory
  pub run : Option Running

-- What a call ends in.
pub record Ended : Type 0 where
  pub reply : Reply
  pub next : State

-- TALLIES

-- the calls of a run that count are at most this
abbrev pub call_limit : ℕ
call_limit = 2 ^ 24

abbrev pub one_if : Bool → ℕ
one_if b = cond b 1 0

-- one counted call more, with its exit, and so many evictions
abbrev pub counted : ℕ → ℕ → Tallies → Tallies
counted x e t = record {
  calls = t.calls + 1;
  hits = t.hits + one_if (x == no_exit);
  hidden = t.hidden + one_if (x == hidden);
  true_exits = t.true_exits + one_if (x == true_exit);
  trace = t.trace + one_if (x == trace);
  flush = t.flush + one_if (x == flush);
  switch = t.switch + one_if (x == switch);
  evictions = t.evictions + e;
}

abbrev pub no_tallies : Tallies
no_tallies = record { calls = 0; hits = 0; hidden = 0; true_exits = 0; trace = 0; flush = 0; switch = 0; evictions = 0 }

abbrev pub count_in : ℕ → ℕ → Hart → Hart
count_in x e h = record { root = h.root; mode = h.mode; pending = h.pending; last = h.last; tallies = counted x e h.tallies }

-- CHECKING TABLES AGAINST MEMORY

-- n words from index k on
abbrev pub listed : (ℕ → ℕ) → ℕ → ℕ → List ℕ
listed w k zero = []
listed w k (suc n) = w k ∷ listed w (suc k) n

-- the 1,024 words of a frame
abbrev pub frame_list : Memory → ℕ → List ℕ
frame_list m f = listed (word_at m f) 0 1024

-- the frame that a table's slot shadows; 0 for others
abbrev pub table_frame : Shadow → ℕ
table_frame Nothing = 0
table_frame (Directory f) = 0
table_frame (Table f y) = f
table_frame (Split f) = 0

-- slot i is checked if it is an unsynchronised table
unfoldable pub resync : Memory → ℕ → SlotTable → SlotTable
resync m i t = cond (is_unsynchronised i t) (check_table i (frame_list m (table_frame (shadow_at i t))) t) t

abbrev pub resync_each : Memory → List ℕ → SlotTable → SlotTable
resync_each m [] t = t
resync_each m (i ∷ is) t = resync_each m is (resync m i t)

-- every unsynchronised table is checked, by rising slot number
abbrev pub resync_all : Memory → SlotTable → SlotTable
resync_all m t = resync_each m (0 ∷ 1 ∷ 2 ∷ 3 ∷ 4 ∷ 5 ∷ 6 ∷ 7 ∷ []) t

abbrev pub resync_found : Memory → SlotTable → Option ℕ → SlotTable
resync_found m t None = t
resync_found m t (Some k) = resync m k t

-- SLOTS FOUND AND TAKEN

-- A slot found or taken, with the slots, the order, and how many evictions it took.
pub record Taken : Type 0 where
  pub slot : ℕ
  pub table : SlotTable
  pub order : List ℕ
  pub evicted : ℕ

abbrev pub taken : ℕ → SlotTable → List ℕ → ℕ → Taken
taken i t o e = record { slot = i; table = t; order = o; evicted = e }

-- a new directory first checks an unsynchronised table of its frame
abbrev pub ready_for : Memory → Thing → SlotTable → SlotTable
ready_for m (thing.Directory f) t = resync_found m t (find_slot (thing.Table f) t)
ready_for m (thing.Table f) t = t
ready_for m (thing.Split f) t = t

-- a new directory or table guards its frame
abbrev pub guard_for : Thing → SlotTable → SlotTable
guard_for (thing.Directory f) t = guard f t
guard_for (thing.Table f) t = guard f t
guard_for (thing.Split f) t = t

-- the slot of the directory in force
abbrev pub root_slot : ℕ → SlotTable → ℕ
root_slot root t = unwrap_or (find_slot (thing.Directory root) t) 0

-- HITS

-- the slot that a link names
abbrev pub link_slot : Place → ℕ
link_slot Empty = 0
link_slot (Link w s) = s
link_slot (Leaf w a b) = 0
link_slot (Piece b) = 0

-- what an access reads, or the word that it stores
abbrev pub value_of : Asked → ℕ → Memory → ℕ → ℕ
value_of a w m f = cond (a.kind == store) w (word_at m f (word_index a.address))

abbrev pub hit_answer : Asked → ℕ → Memory → ℕ → Through
hit_answer a w m f = record { target = f; marks = []; value = value_of a w m f; exit = no_exit }

-- LINK AND LEAF

-- what a directory's word that is no fault names
abbrev pub thing_named : Answer → Thing
thing_named r = cond (is_table r) (thing.Table r.value) (thing.Split r.value)

-- is the link there, with the present word, and does it name the thing?
abbrev pub good_link : SlotTable → ℕ → Thing → Place → Bool
good_link t w x Empty = false
good_link t w x (Link v s) = v == w && shadows (shadow_at s t) x
good_link t w x (Leaf v a b) = false
good_link t w x (Piece b) = false

abbrev pub with_link : ℕ → ℕ → ℕ → Taken → Taken
with_link i d w r = taken r.slot (put_place i d (Link w r.slot) r.table) r.order r.evicted

-- the leaf of a table, with its present word, or a piece of a split
abbrev pub new_place : Memory → Asked → ℕ → Thing → Place
new_place m a f (thing.Directory g) = Empty
new_place m a f (thing.Table g) = Leaf (word_at m g (table_index a.address)) f (a.kind == store)
new_place m a f (thing.Split g) = Piece (a.kind == store)

-- STORES

-- The slots after an access that walked and came through, with the exit. The leaf is at place j of slot s.
pub record Traced : Type 0 where
  pub table : SlotTable
  pub exit : ℕ

abbrev pub unsync_found : SlotTable → Option ℕ → SlotTable
unsync_found t None = t
unsync_found t (Some k) = set_sync k Unsynchronised t

-- a store to a directory's frame, to a protected table's, or to any other
unfoldable pub store_traced : ℕ → ℕ → ℕ → ℕ → SlotTable → Traced
store_traced s j f i t =
    cond (is_directory f t) (record { table = drop_entry f i (flag_off_at s j t); exit = trace })
    (cond (is_protected f t) (record { table = unsync_found t (find_slot (thing.Table f) t); exit = trace })
    (record { table = t; exit = hidden }))

abbrev pub traced : Asked → ℕ → ℕ → SlotTable → Traced
traced a s f t =
    cond (a.kind == store) (store_traced s (table_index a.address) f (word_index a.address) t)
    (record { table = t; exit = hidden })

-- WHAT CALLS END IN

abbrev pub refuse : State → ℕ → Ended
refuse s n = record { reply = refused n; next = s }

-- the state after an access that came through: its memory before the load or store, the slots, the order, the evictions
abbrev pub come_through : Running → Asked → ℕ → Memory → SlotTable → List ℕ → ℕ → Through → Ended
come_through r a w m t o e x = record {
  reply = through x;
  next = record { memory = put_all m (store_of a w x); run = Some (record { table = t; order = o; hart = count_in x.exit e r.hart }) };
}

-- a fault leaves slots and memory alone, and waits
abbrev pub fault_ends : State → Running → Failure → Ended
fault_ends s r x = record {
  reply = reply.faulted x;
  next = record {
    memory = s.memory;
    run = Some (record {
      table = r.table;
      order = r.order;
      hart = record { root = r.hart.root; mode = r.hart.mode; pending = Some x; last = r.hart.last; tallies = counted true_exit 0 r.hart.tallies };
    });
  };
}

abbrev pub flushed : State → Running → SlotTable → Ended
flushed s r t = record {
  reply = done flush;
  next = record { memory = s.memory; run = Some (record { table = t; order = r.order; hart = count_in flush 0 r.hart }) };
}

-- the leaf of an address under the root in force goes
abbrev pub drop_below : ℕ → SlotTable → Place → SlotTable
drop_below j t Empty = t
drop_below j t (Link w s) = put_place s j Empty t
drop_below j t (Leaf w a b) = t
drop_below j t (Piece b) = t

unfoldable pub drop_page : ℕ → ℕ → SlotTable → SlotTable
drop_page root a t = drop_below (table_index a) t (place_at (root_slot root t) (directory_index a) t)

abbrev pub switched_to : State → Running → ℕ → Taken → Ended
switched_to s r f k = record {
  reply = done switch;
  next = record {
    memory = s.memory;
    run = Some (record {
      table = k.table;
      order = k.order;
      hart = record { root = f; mode = r.hart.mode; pending = r.hart.pending; last = r.hart.last; tallies = counted switch k.evicted r.hart.tallies };
    });
  };
}

abbrev pub with_hart : State → Running → Hart → State
with_hart s r h = record { memory = s.memory; run = Some (record { table = r.table; order = r.order; hart = h }) }

abbrev pub mode_set : State → Running → ℕ → Ended
mode_set s r p = record {
  reply = done no_exit;
  next = with_hart s r (record { root = r.hart.root; mode = p; pending = r.hart.pending; last = r.hart.last; tallies = r.hart.tallies });
}

-- nothing is pending any more, and this is what the guest was last told
abbrev pub settled_as : State → Running → Option RecordedFault → Ended
settled_as s r l = record {
  reply = done no_exit;
  next = with_hart s r (record { root = r.hart.root; mode = r.hart.mode; pending = None; last = l; tallies = r.hart.tallies });
}

-- REFUSALS

-- two faults are the same, field by field
abbrev pub same_failure : Failure → Failure → Bool
same_failure x y =
    (x.address == y.address) && x.reason == y.reason && x.spot.level == y.spot.level && x.spot.frame == y.spot.frame
    && x.spot.index == y.spot.index && x.code == y.code && x.cause == y.cause

abbrev pub is_pending : Failure → Option Failure → Bool
is_pending x None = false
is_pending x (Some y) = same_failure x y

-- refused with 6 while a fault is pending
abbrev pub unless_pending : State → Running → Ended → Ended
unless_pending s r e = cond (is_some r.hart.pending) (refuse s 6) e

-- .. and with 7 where as many calls are counted as may be
abbrev pub unless_full : State → Running → Ended → Ended
unless_full s r e = unless_pending s r (cond (nat_le call_limit r.hart.tallies.calls) (refuse s 7) e)

abbrev pub asked_in : Running → ℕ → ℕ → Asked
asked_in r k a = record { address = a; kind = k; privilege = r.hart.mode }

-- the root's directory is taken, without an exit
abbrev pub opened_with : Memory → ℕ → Taken → State
opened_with m f k = record {
  memory = m;
  run = Some (record { table = k.table; order = k.order; hart = record { root = f; mode = supervisor; pending = None; last = None; tallies = no_tallies } });
}

module _ (F : Format) where
  abbrev pub hit_by : Asked → Option Copied → Option ℕ
  hit_by a None = None
  hit_by a (Some c) = hit_of F a.kind a.privilege (copied_words c) c.aim c.writable

  -- the frame that an access reaches through the slots, where it hits
  unfoldable pub hit_target : Asked → ℕ → SlotTable → Option ℕ
  hit_target a root t = hit_by a (copied_at (root_slot root t) (directory_index a.address) (table_index a.address) t)

module _ (R : Rule) where
  -- TAKING A SLOT, BY THE POLICY

  -- an empty slot in number order, or one that the policy names among the permitted ones and that is then emptied
  abbrev pub evict_at : ℕ → SlotTable → List ℕ → Taken
  evict_at i t o = taken i (evict i t) (R.named o i) 1

  abbrev pub room : Option ℕ → SlotTable → List ℕ → Option ℕ → Taken
  room kept t o (Some i) = taken i t o 0
  room kept t o None = evict_at (first_permitted (permitted kept t) o) t o

  unfoldable pub settle_in : Memory → Thing → Taken → Taken
  settle_in m x r = taken r.slot (guard_for x (fill r.slot x (ready_for m x r.table))) (R.told r.order r.slot) r.evicted

  unfoldable pub take_slot : Memory → Option ℕ → Thing → SlotTable → List ℕ → Taken
  take_slot m kept x t o = settle_in m x (room kept t o (first_empty t))

  abbrev pub obtained : Memory → Option ℕ → Thing → SlotTable → List ℕ → Option ℕ → Taken
  obtained m kept x t o (Some i) = taken i (resync m i t) o 0
  obtained m kept x t o None = take_slot m kept x t o

  -- the slot of a thing, found, and then checked if it is an unsynchronised table, or taken
  unfoldable pub obtain : Memory → Option ℕ → Thing → SlotTable → List ℕ → Taken
  obtain m kept x t o = obtained m kept x t o (find_slot x t)

  -- the directory's slot, then the leaf's, are told of
  abbrev pub tell_path : ℕ → ℕ → List ℕ → List ℕ
  tell_path i s o = R.told (R.told o i) s

  -- ACCESSES THAT MISS

  -- the slot below the link, which is written where it is not good
  unfoldable pub linked : Memory → ℕ → ℕ → ℕ → Thing → SlotTable → List ℕ → Taken
  linked m root d w x t o =
      cond (good_link t w x (place_at (root_slot root t) d t)) (taken (link_slot (place_at (root_slot root t) d t)) t o 0)
      (with_link (root_slot root t) d w (obtain m (Some root) x t o))

  abbrev pub hit_ends : State → Running → Asked → ℕ → ℕ → Ended
  hit_ends s r a w f =
      come_through r a w s.memory r.table
      (tell_path (root_slot r.hart.root r.table) (link_slot (place_at (root_slot r.hart.root r.table) (directory_index a.address) r.table)) r.order)
      0 (hit_answer a w s.memory f)

  -- The leaf is written under the link, the store is traced, and the policy is told. m is the memory with the marks.
  abbrev pub leaf_ends : Running → Asked → ℕ → Memory → List Write → ℕ → Thing → Taken → Traced → Ended
  leaf_ends r a w m marks f x k z =
      come_through r a w m z.table (tell_path (root_slot r.hart.root r.table) k.slot k.order) k.evicted
      (record { target = f; marks = marks; value = value_of a w m f; exit = z.exit })

  abbrev pub link_ends : Running → Asked → ℕ → Memory → List Write → ℕ → Thing → Taken → Ended
  link_ends r a w m marks f x k =
      leaf_ends r a w m marks f x k
      (traced a k.slot f (put_place k.slot (table_index a.address) (new_place m a f x) k.table))

  unfoldable pub switch_ends : State → Running → ℕ → Ended
  switch_ends s r f = switched_to s r f (obtain s.memory None (thing.Directory f) (resync_all s.memory r.table) r.order)

  unfoldable pub opened_at : Memory → ℕ → ℕ → State
  opened_at m f n = opened_with m f (take_slot m None (thing.Directory f) (fresh n) (numbered n))

module _ (R : Rule) (F : Format) where
  -- ACCESSES

  abbrev pub marked_ends : Running → Asked → ℕ → ℕ → Memory → List Write → Ended
  marked_ends r a w f m marks =
      let d = word_at m r.hart.root (directory_index a.address) in
      let x = thing_named (F.reads directory_level d) in
      link_ends R r a w m marks f x (linked R m r.hart.root (directory_index a.address) d x r.table r.order)

  abbrev pub walk_ends : State → Running → Asked → ℕ → Outcome → Ended
  walk_ends s r a w (reached f es) =
      marked_ends r a w f (put_all s.memory (due F a.kind s.memory es)) (due F a.kind s.memory es)
  walk_ends s r a w (faulted x) = fault_ends s r x

  abbrev pub access_by : State → Running → Asked → ℕ → Option ℕ → Ended
  access_by s r a w (Some f) = hit_ends R s r a w f
  access_by s r a w None = walk_ends s r a w (walk_from F a s.memory r.hart.root)

  unfoldable pub access_ends : State → Running → Asked → ℕ → Ended
  access_ends s r a w = access_by s r a w (hit_target F a r.hart.root r.table)

  -- THE CALLS, WITH THEIR REFUSALS

  -- while a run is open
  abbrev pub in_run : State → Running → Call → Ended
  in_run s r (open_run f n) = refuse s 1
  in_run s r (access k a w) = unless_full s r (cond (a % 4 == 0) (access_ends s r (asked_in r k a) w) (refuse s 5))
  in_run s r flush_all = unless_full s r (flushed s r (resync_all s.memory r.table))
  in_run s r (flush_page a) = unless_full s r (flushed s r (drop_page r.hart.root a r.table))
  in_run s r (switch_root f) = unless_full s r (cond (has_words (s.memory f)) (switch_ends R s r f) (refuse s 3))
  in_run s r (set_mode p) = unless_pending s r (mode_set s r p)
  in_run s r (deliver x) = cond (is_pending x r.hart.pending) (settled_as s r (Some (record { address = x.address; code = x.code }))) (refuse s 10)
  in_run s r (give_up x) = cond (is_pending x r.hart.pending) (settled_as s r r.hart.last) (refuse s 10)
  in_run s r close_run = unless_pending s r (record { reply = closed r.hart.tallies; next = record { memory = s.memory; run = None } })
  in_run s r (poke f i w) = refuse s 1

  -- while none is open
  abbrev pub out_of_run : State → Call → Ended
  out_of_run s (open_run f n) =
      cond (nat_lt n 2 || nat_lt 8 n) (refuse s 4)
      (cond (has_words (s.memory f)) (record { reply = done no_exit; next = opened_at R s.memory f n }) (refuse s 3))
  out_of_run s (access k a w) = refuse s 2
  out_of_run s flush_all = refuse s 2
  out_of_run s (flush_page a) = refuse s 2
  out_of_run s (switch_root f) = refuse s 2
  out_of_run s (set_mode p) = refuse s 2
  out_of_run s (deliver x) = refuse s 2
  out_of_run s (give_up x) = refuse s 2
  out_of_run s close_run = refuse s 2
  out_of_run s (poke f i w) =
      cond (nat_lt 1023 i) (refuse s 8)
      (cond (has_words (s.memory f)) (record { reply = done no_exit; next = record { memory = stored s.memory f i w; run = None } }) (refuse s 3))

  abbrev pub step_in : State → Call → Option Running → Ended
  step_in s c None = out_of_run s c
  step_in s c (Some r) = in_run s r c

  -- what a call does
  abbrev pub step : State → Call → Ended
  step s c = step_in s c s.run
