-- What a call hands back, laid out as numbers. Assumes nothing.
pub mod Results
