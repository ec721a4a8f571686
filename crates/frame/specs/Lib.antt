-- What the readings of all texts have in common, and how what they say is put into a room. Assumes nothing.
pub mod Reading
pub mod Store
