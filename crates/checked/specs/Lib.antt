-- What is known of a text and a tree that an entry does not refuse.
pub mod Checked
