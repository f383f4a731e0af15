-- Every rule of document 01, in its order, and of the requests of document 02 that have landed. Nothing else in the repository
-- has to be believed, but what a value of a crate's own type stands for where a public contract names one:
-- hypuz_notation/specs/Agreement (the answers of `agree`), entries/specs/Parts (`family_part`), layer/specs/Meaning (`range`, of
-- `ranges::simplify`), reader/specs/Cursor with parsed/specs/Reading, parse/specs/Meaning and record/specs/Meaning (`Reader` and
-- `first_leaf`), listing/specs/Listing (`list_whole`). The programs `lister` and `vectors` rest on five axioms of the kit, what std assumes of
-- libc's `read`, `write` and `lseek` and of the two functions that name an error, and nothing is proved of what they read and
-- write: the lister hands its input to `list_whole` and writes what that gives.
pub mod Basics
pub mod Features
pub mod Chars
pub mod Utf8
pub mod Numbers
pub mod Layers
pub mod Tree
pub mod Counts
pub mod Packed
pub mod Grammar
pub mod Meaning
pub mod WellFormed
pub mod Clauses
pub mod Stored
pub mod Refusals
pub mod Invert
pub mod Print
pub mod Unroll
pub mod Reached
pub mod Lending
pub mod Entries
pub mod Tilde
pub mod Primes
pub mod Lister
pub mod Demands
pub mod UndoView
pub mod Marked
pub mod Host
pub mod Sizes
