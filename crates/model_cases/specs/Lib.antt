pub mod NoViews
