-- Document 01, "Trace text", and document 02, C-13 and C-17: the fixed table of kinds, and which events are lawful. Assumes nothing.
use Rattle.std.specs.Prelude.{ℕ, Bool, true, false, ◌&&◌, ◌||◌, not, List, [], ◌∷◌, eqb, leb, get_or}
use Rattle.laws.specs.Has.{has}
use Rattle.event.specs.Limit.{last_place}
use Rattle.event.specs.declared.Event.{Event}
use Rattle.kinds.specs.declared.Row.{Row}
use Rattle.kinds.specs.declared.Orders.{Orders}
use Rattle.kinds.specs.declared.Orders.TheVariants.{Bare, Marks, Reads, Writes, Updates, Fences, NoKind}
use Rattle.kinds.specs.declared.Place.{Place}
use Rattle.kinds.specs.declared.Place.TheVariants.{Location, Mutex, Nowhere}
use Rattle.kinds.specs.declared.Width.{Width}
use Rattle.kinds.specs.declared.Width.TheVariants.{Bits32, Bits64}
use Rattle.kinds.specs.declared.Sets.{Sets}
use Rattle.kinds.specs.declared.Sets.TheVariants.{Nothing, First, Second, Sum}

-- the numbers of the orders and marks; 0 is no order
abbrev pub rlx : ℕ
rlx = 1

abbrev pub acq : ℕ
acq = 2

abbrev pub rel : ℕ
rel = 3

abbrev pub ar : ℕ
ar = 4

abbrev pub sc : ℕ
sc = 5

abbrev pub used : ℕ
used = 6

abbrev pub unused : ℕ
unused = 7

-- the orders of a list
abbrev pub orders_of : Orders → List ℕ
orders_of Bare = 0 ∷ []
orders_of Marks = used ∷ unused ∷ []
orders_of Reads = rlx ∷ acq ∷ sc ∷ []
orders_of Writes = rlx ∷ rel ∷ sc ∷ []
orders_of Updates = rlx ∷ acq ∷ rel ∷ ar ∷ sc ∷ []
orders_of Fences = acq ∷ rel ∷ ar ∷ sc ∷ []
orders_of NoKind = []

unfoldable pub takes : Orders → ℕ → Bool
takes os o = has o (orders_of os)

-- the bits of a width
abbrev pub bits_of : Width → ℕ
bits_of Bits32 = 32
bits_of Bits64 = 64

-- the greatest value of a width: 2^32 - 1, 2^64 - 1
abbrev pub last_of : Width → ℕ
last_of Bits32 = 4294967295
last_of Bits64 = 18446744073709551615

-- the greatest value of all
abbrev pub last_value : ℕ
last_value = last_of Bits64

-- a kind that accesses a location: orders, how many values, how wide they are, whether it reads, what it sets, whether it synchronises
abbrev pub access_row : Orders → ℕ → Width → Bool → Sets → Bool → Row
access_row o n b r w s = record { orders = o; place = Location; values = n; width = b; reads = r; sets = w; sync = s }

-- a kind that accesses none, and synchronises; it has no values, so that their width does not matter
abbrev pub barrier_row : Orders → Place → Row
barrier_row o p = record { orders = o; place = p; values = 0; width = Bits64; reads = false; sets = Nothing; sync = true }

abbrev pub no_kind : Row
no_kind = record { orders = NoKind; place = Nowhere; values = 0; width = Bits64; reads = false; sets = Nothing; sync = false }

-- the fixed table, by the kind's number
abbrev pub rows : List Row
rows =
    no_kind
    ∷ access_row Marks 1 Bits64 true Nothing false  -- 1 load
    ∷ access_row Bare 1 Bits64 false First false  -- 2 store
    ∷ access_row Reads 1 Bits64 true Nothing true  -- 3 aload
    ∷ access_row Writes 1 Bits64 false First true  -- 4 astore
    ∷ access_row Updates 2 Bits64 true Second true  -- 5 rmw
    ∷ access_row Updates 2 Bits32 true Sum true  -- 6 add
    ∷ barrier_row Fences Nowhere  -- 7 fence
    ∷ barrier_row Bare Mutex  -- 8 lock
    ∷ barrier_row Bare Mutex  -- 9 unlock
    ∷ access_row Updates 2 Bits64 true Sum true  -- 10 add64
    ∷ access_row Reads 1 Bits64 true Nothing true  -- 11 cmpfail
    ∷ []

-- the numbers of the kinds that other pages name; a compare exchange that fails is an atomic load
abbrev pub load : ℕ
load = 1

abbrev pub store : ℕ
store = 2

abbrev pub aload : ℕ
aload = 3

abbrev pub add64 : ℕ
add64 = 10

abbrev pub cmpfail : ℕ
cmpfail = 11

unfoldable pub row : ℕ → Row
row k = get_or rows k no_kind

-- locations and mutexes are 0 to 255; an event that has neither has 0 there
abbrev pub fits_place : Place → ℕ → Bool
fits_place Location n = leb n last_place
fits_place Mutex n = leb n last_place
fits_place Nowhere n = eqb n 0

-- a value that the kind lacks is 0
abbrev pub fits_values : ℕ → ℕ → ℕ → Bool
fits_values n a b = (leb 1 n || eqb a 0) && (leb 2 n || eqb b 0)

-- both values are of a width
abbrev pub in_range : Width → ℕ → ℕ → Bool
in_range w a b = leb a (last_of w) && leb b (last_of w)

-- the greatest code line
abbrev pub last_code : ℕ
last_code = 65535

-- the event of its fields
abbrev pub made : ℕ → ℕ → ℕ → ℕ → ℕ → ℕ → Event
made kind place order first second code =
    record { kind = kind; place = place; order = order; first = first; second = second; code = code }

-- an event of the layout: an order of its kind, a place in range, no value that its kind lacks, values of its width, and a code line in range
unfoldable pub lawful : Event → Bool
lawful e =
    takes (row e.kind).orders e.order
    && (fits_place (row e.kind).place e.place
    && (fits_values (row e.kind).values e.first e.second
    && (in_range (row e.kind).width e.first e.second
    && leb e.code last_code)))

abbrev pub is_location : Place → Bool
is_location Location = true
is_location Mutex = false
is_location Nowhere = false

-- marks, not orders
abbrev pub is_marks : Orders → Bool
is_marks Bare = false
is_marks Marks = true
is_marks Reads = false
is_marks Writes = false
is_marks Updates = false
is_marks Fences = false
is_marks NoKind = false

-- a load is what has a mark
abbrev pub is_load_kind : ℕ → Bool
is_load_kind kind = is_marks (row kind).orders

-- plain: `load` and `store`; atomic: every other access to a location
abbrev pub plain : Event → Bool
plain e = is_location (row e.kind).place && not (row e.kind).sync

abbrev pub atomic : Event → Bool
atomic e = is_location (row e.kind).place && (row e.kind).sync
