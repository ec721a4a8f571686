-- What is proved of the rules of change, from one location's word up to demand 3. Assumes nothing.

-- laws of tests and of chains of moves; items
pub mod Truth
pub mod Chain
pub mod Fixed
pub mod Item
-- faults 11, 13 and 14 at one location, and what a location sees of a trace
pub mod Word
pub mod WordMoves
pub mod Place
-- the fixed order: removing, sorting, inserting
pub mod Greedy
pub mod Order
pub mod Sorting
pub mod Insertion
pub mod Target
pub mod Canonical
pub mod FixedRun
-- a run shows no fault
pub mod Reach
-- from items to events and back
pub mod Image
pub mod FixedImage
pub mod Same
pub mod Test
pub mod Clean
pub mod Entries
pub mod Matching
pub mod Pairing
pub mod Origin
pub mod Traced
pub mod Realise
-- memory and values
pub mod Effect
pub mod Latest
pub mod Values
pub mod Along
-- the theorem, what it leaves in memory, and the table of kinds beside the view; without a list
pub mod Unlisted
pub mod Theorem
pub mod Outcome
pub mod Answers
pub mod Kept
pub mod Recode
pub mod Looks
pub mod Sync
pub mod Walls
pub mod Registers
pub mod Exchange
